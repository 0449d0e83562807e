use Rattle.std.proofs.Common.{◌-◌}
use Rattle.runs.specs.Handing.{Idles, Onward}
use Rattle.runs.proofs.run.Run.empty.Given as goal

abbrev pub invariant-loop : goal.invariant-loop
invariant-loop g l =
    let mach = g.E.Engine.machine in
    let was = l.initial.self in
    Onward (mach was.engine) (mach l.self.engine) was.frame l.self.frame 0 l.given 0
    × Idles (mach was.engine) (mach l.self.engine) was.frame l.self.frame (l.counter - 1) 0 l.given l.initial.out l.out
