use Rattle.std.proofs.Common.{replicate, refl, arith}
use Rattle.std.proofs.lemmas.Result.{err_from_is_err_and}
use Rattle.engines.specs.Depths.{the_greatest_depth}
use Rattle.jobs.proofs.UnderWay.{feed_not_refused, feed_goes_on}
use Rattle.jobs.proofs.carrying.feed_unit.Goals as goal

pub returns-in_err-given : goal.returns-in_err-given
returns-in_err-given g c =
    let p = err_from_is_err_and c.from_residual.result c.from_residual.ensures.1 in
    let feed = c.in_err-given.ensures in
    let machine = g.E.Engine.machine in
    let run = c.args.run.now in
    let after = c.feed.new.self in
    let writer = c.args.writer.now in
    rw p.1
    (record {
      fed = feed_not_refused (machine run.engine) (machine after.engine) run.frame after.frame writer.mode c.args.unit writer.end
          writer.out.now (replicate the_greatest_depth 0) c.feed.new.out (omega arith) _ _ feed.answered;
      same = feed.same.0;
      reference = refl;
      mode = refl;
    })

pub returns : goal.returns
returns g c =
    let feed = c.in_ok-given.ensures in
    let machine = g.E.Engine.machine in
    let run = c.args.run.now in
    let after = c.feed.new.self in
    let writer = c.args.writer.now in
    let write = c.write.ensures in
    record {
      fed = feed_goes_on (machine run.engine) (machine after.engine) run.frame after.frame writer.mode c.args.unit writer.end
          writer.out.now (replicate the_greatest_depth 0) c.feed.new.out (omega arith) c.in_ok-given.given c.write.new.self.out.now c.write.new.self.end
          c.write.result feed.answered write.value write.output;
      same = feed.same.0;
      reference = write.reference;
      mode = write.mode;
    }
