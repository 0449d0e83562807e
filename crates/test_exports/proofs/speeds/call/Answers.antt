use Rattle.std.proofs.Common.{◌≡◌, suc, ◌+◌, ◌-◌, arith}
use Rattle.cipher.specs.Functions.{forward_of, inverse_of}
use Rattle.test_exports.proofs.speeds.call.Goals as goal

pub loop-number-preserved : goal.loop-number-preserved
loop-number-preserved c =
    let a = c.args in
    let i = c.loop-number.number in
    let more : suc (a.times - (i + 1)) ≡ a.times - i = omega arith in
    let here : c.forward-all.result ≡ forward_of a.third.now (inverse_of a.second.now (forward_of a.first.now i)) = cc in
    rw here (rw (← more) at c.loop-number.invariant)
