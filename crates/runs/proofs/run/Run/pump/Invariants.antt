use Rattle.std.proofs.Common.{◌≡◌}
use Rattle.runs.specs.Handing.{Pumps, Onward}
use Rattle.runs.proofs.run.Run.pump.Given as goal

abbrev pub invariant-loop-unit : goal.invariant-loop-unit
invariant-loop-unit g l =
    let mach = g.E.Engine.machine in
    let was = l.initial.self in
    Onward (mach was.engine) (mach l.self.engine) was.frame l.self.frame 0 l.given l.unit-index
    × Pumps (mach was.engine) (mach l.self.engine) was.frame l.self.frame l.units l.unit-index l.given l.initial.out l.out
    × (l.unit-index ≡ 0 → (l.given ≡ 0) × (l.self ≡ was) × (l.out ≡ l.initial.out))
