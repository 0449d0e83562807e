use Rattle.std.proofs.Common.{◌≡◌, ◌-◌}
use Rattle.test_exports.specs.Speeds.{gathered}
use Rattle.test_exports.proofs.speeds.gather.Given as goal

abbrev pub invariant-loop-number : goal.invariant-loop-number
invariant-loop-number g l =
    gathered (l.cycles - l.number) l.number (g.E.Engine.machine l.engine) l.all ≡ gathered l.cycles 0 (g.E.Engine.machine l.initial.engine) 0
