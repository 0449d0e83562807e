use Rattle.std.proofs.Common.{◌-◌}
use Rattle.runs.specs.Handing.{Behind, Idles, Onward}
use Rattle.runs.proofs.Waits.{Early}
use Rattle.runs.proofs.run.Run.wait.Given as goal

abbrev pub invariant-loop : goal.invariant-loop
invariant-loop g l =
    let mach = g.E.Engine.machine in
    let was = l.initial.self in
    Onward (mach was.engine) (mach l.self.engine) was.frame l.self.frame 0 l.given 0
    × Behind (Idles (mach was.engine) (mach l.self.engine) was.frame l.self.frame (l.counter - 1)) l.given l.initial.out l.out
    × Behind (λ a _ ys _. Early (mach was.engine) was.frame (l.counter - 1) a ys) 0 l.initial.out l.initial.out
