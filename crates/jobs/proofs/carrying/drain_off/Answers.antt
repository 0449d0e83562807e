use Rattle.std.proofs.Common.{replicate, refl, arith}
use Rattle.std.proofs.lemmas.Result.{err_from_is_err_and}
use Rattle.engines.specs.Depths.{the_greatest_depth}
use Rattle.jobs.proofs.UnderWay.{drain_not_refused, drain_ends}
use Rattle.jobs.proofs.carrying.drain_off.Goals as goal

pub returns-in_err-left : goal.returns-in_err-left
returns-in_err-left g c =
    let p = err_from_is_err_and c.from_residual.result c.from_residual.ensures.1 in
    let drain = c.in_err-left.ensures in
    let machine = g.E.Engine.machine in
    let run = c.args.run.now in
    let after = c.drain.new.self in
    let writer = c.args.writer.now in
    rw p.1
    (record {
      drained = drain_not_refused (machine run.engine) (machine after.engine) run.frame after.frame writer.mode writer.end
          writer.out.now (replicate the_greatest_depth 0) c.drain.new.out (omega arith) _ _ drain.answered;
      same = drain.same.0;
      reference = refl;
    })

pub returns : goal.returns
returns g c =
    let drain = c.in_ok-left.ensures in
    let machine = g.E.Engine.machine in
    let run = c.args.run.now in
    let after = c.drain.new.self in
    let writer = c.args.writer.now in
    let write = c.write.ensures in
    record {
      drained = drain_ends (machine run.engine) (machine after.engine) run.frame after.frame writer.mode writer.end
          writer.out.now (replicate the_greatest_depth 0) c.drain.new.out (omega arith) c.in_ok-left.left c.write.new.self.out.now c.write.new.self.end
          c.write.result drain.answered write.value write.output;
      same = drain.same.0;
      reference = write.reference;
    }
