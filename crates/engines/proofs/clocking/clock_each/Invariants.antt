use Rattle.std.proofs.Common.{◌≡◌, take}
use Rattle.engines.specs.Cycles.{due, later, written_over}
use Rattle.engines.proofs.clocking.clock_each.Given as goal

abbrev pub invariant-loop-cycle : goal.invariant-loop-cycle
invariant-loop-cycle g l =
    let m = g.E.Engine.machine l.initial.engine in
    (g.E.Engine.machine l.engine ≡ later m (take l.cycle l.inputs))
    × (l.answers ≡ written_over (take l.cycle (due m l.inputs)) l.initial.answers)
