use Rattle.std.proofs.Common.{◌≡◌, suc, ◌+◌, ◌-◌, arith}
use Rattle.test_exports.proofs.speeds.gather.Goals as goal

pub loop-number-preserved : goal.loop-number-preserved
loop-number-preserved g c =
    let more : suc (c.args.cycles - (c.loop-number.number + 1)) ≡ c.args.cycles - c.loop-number.number = omega arith in
    let before = rw (← more) at c.loop-number.invariant in
    rw (c.unwrap_or-all.ensures, c.clock.ensures.answer, c.clock.ensures.after) before
