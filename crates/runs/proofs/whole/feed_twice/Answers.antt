use Rattle.std.proofs.lemmas.List.{take_rest}
use Rattle.std.proofs.lemmas.Result.{err_from_is_err_and}
use Rattle.runs.proofs.Emptying.{same_then}
use Rattle.runs.proofs.TwoFeeds.{first_refused, second_refused, fed_twice}
use Rattle.runs.proofs.whole.feed_twice.Goals as goal

pub returns-in_err-given : goal.returns-in_err-given
returns-in_err-given g c =
    let p = err_from_is_err_and c.from_residual.result c.from_residual.ensures.1 in
    let run = c.args.run.now in
    let once = c.feed_and_drain.new.run in
    let machine = g.E.Engine.machine in
    let one = c.in_err-given.ensures in
    rw (p.1, p.2)
    (first_refused (machine run.engine) (machine once.engine) run.frame once.frame c.args.first.now c.args.second.now
    c.args.out.now c.feed_and_drain.new.out _ one.same one.emptied)

pub returns-in_err-feed_and_drain : goal.returns-in_err-feed_and_drain
returns-in_err-feed_and_drain g c =
    let p = err_from_is_err_and c.from_residual-in_err-feed_and_drain.result c.from_residual-in_err-feed_and_drain.ensures.1 in
    let run = c.args.run.now in
    let once = c.feed_and_drain.new.run in
    let twice = c.feed_and_drain-2.new.run in
    let given = c.in_ok-given.given in
    let machine = g.E.Engine.machine in
    let one = c.in_ok-given.ensures in
    let two = c.in_err-feed_and_drain.ensures in
    let ys = c.feed_and_drain.new.out in
    rw (p.1, p.2)
    (second_refused (machine run.engine) (machine once.engine) (machine twice.engine) run.frame once.frame twice.frame
    c.args.first.now c.args.second.now c.args.out.now ys _ c.feed_and_drain-2.new.out given
    (same_then (machine run.engine) (machine once.engine) (machine twice.engine) one.same two.same)
    c.feed_and_drain.auto.out (take_rest ys given) one.emptied _ two.emptied)

pub returns : goal.returns
returns g c =
    let run = c.args.run.now in
    let once = c.feed_and_drain.new.run in
    let twice = c.feed_and_drain-2.new.run in
    let given = c.in_ok-given.given in
    let machine = g.E.Engine.machine in
    let one = c.in_ok-given.ensures in
    let two = c.in_ok-feed_and_drain.ensures in
    let ys = c.feed_and_drain.new.out in
    fed_twice (machine run.engine) (machine once.engine) (machine twice.engine) run.frame once.frame twice.frame
    c.args.first.now c.args.second.now c.args.out.now ys _ c.feed_and_drain-2.new.out given
    (same_then (machine run.engine) (machine once.engine) (machine twice.engine) one.same two.same)
    c.feed_and_drain.auto.out (take_rest ys given) one.emptied _ c.cycles.result two.emptied c.cycles.ensures.due
