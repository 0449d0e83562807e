use Rattle.std.proofs.Common.{◌≡◌, ◌-◌}
use Rattle.test_exports.specs.Speeds.{called}
use Rattle.test_exports.proofs.speeds.call.Given as goal

abbrev pub invariant-loop-number : goal.invariant-loop-number
invariant-loop-number l = called (l.times - l.number) l.number l.first l.second l.third l.all ≡ called l.times 0 l.first l.second l.third 0
