use Rattle.std.proofs.lemmas.List.{take_rest}
use Rattle.std.proofs.lemmas.Result.{err_from_is_err_and}
use Rattle.runs.proofs.Emptying.{same_then, refused_at_once, never_refused, fed_and_drained}
use Rattle.runs.proofs.whole.feed_and_drain.Goals as goal

pub returns-in_err-given : goal.returns-in_err-given
returns-in_err-given g c =
    let p = err_from_is_err_and c.from_residual.result c.from_residual.ensures.1 in
    let feed = c.in_err-given.ensures in
    rw (p.1, p.2)
    (record { emptied = refused_at_once _ _ _ _ _ _ _ _ feed.refusal feed.answered; within = tt; same = feed.same.0 })

pub returns-in_err-drained : goal.returns-in_err-drained
returns-in_err-drained g c =
    let p = err_from_is_err_and c.from_residual-in_err-drained.result c.from_residual-in_err-drained.ensures.1 in
    let feed = c.in_ok-given.ensures in
    let drain = c.in_err-drained.ensures in
    let run = c.args.run.now in
    let fed = c.feed.new.self in
    let emptied = c.drain.new.self in
    let given = c.in_ok-given.given in
    let machine = g.E.Engine.machine in
    let rest = take_rest c.feed.new.out given in
    rw p.1
    (record {
      emptied = λ calls stands. absurd (never_refused (machine run.engine) (machine fed.engine) run.frame fed.frame c.args.units.now c.args.out.now c.feed.new.out (machine emptied.engine) emptied.frame _ c.drain.new.out given rest feed.answered _ drain.answered calls stands);
      within = tt;
      same = same_then (machine run.engine) (machine fed.engine) (machine emptied.engine) feed.same.0 drain.same.0;
    })

pub returns-clause-emptied : goal.returns-clause-emptied
returns-clause-emptied g c =
    let feed = c.in_ok-given.ensures in
    let drain = c.in_ok-drained.ensures in
    let run = c.args.run.now in
    let fed = c.feed.new.self in
    let emptied = c.drain.new.self in
    let given = c.in_ok-given.given in
    let machine = g.E.Engine.machine in
    let rest = take_rest c.feed.new.out given in
    fed_and_drained (machine run.engine) (machine fed.engine) run.frame fed.frame c.args.units.now c.args.out.now c.feed.new.out (machine emptied.engine) emptied.frame _ c.drain.new.out given rest feed.answered _ feed.refusal drain.answered
