use Rattle.std.proofs.Common.{◌≡◌, ◌++◌, length}
use Rattle.modes.specs.Table.{row}
use Rattle.runs.specs.Standing.{SameEngine}
use Rattle.job_format.specs.UnitBytes.{units_in}
use Rattle.job_format.specs.UnitsLeft.{units_left}
use Rattle.jobs.specs.Carrying.{FedSome}
use Rattle.jobs.proofs.carrying.carry.Given as goal

abbrev pub invariant-loop-unit : goal.invariant-loop-unit
invariant-loop-unit g l = record {
  same : SameEngine (g.E.Engine.machine l.initial.run.engine) (g.E.Engine.machine l.run.engine);
  fed : FedSome (g.E.Engine.machine l.initial.run.engine) (g.E.Engine.machine l.run.engine) l.initial.run.frame l.run.frame
      l.fn.passage.order.mode l.fn.passage.«data».now l.initial.writer.out.now l.writer.out.now (length l.yielded) l.writer.end;
  left : units_in (row l.fn.passage.order.mode).width l.fn.passage.«data».now ≡ l.yielded ++ units_left l.unit-iterator;
  reference : l.writer.out.ghost_name ≡ l.initial.writer.out.ghost_name;
  mode : l.writer.mode ≡ l.fn.passage.order.mode;
}
