use Rattle.std.proofs.Common.{◌∙◌}
use Rattle.runs.specs.Steps.{counted}
use Rattle.runs.specs.Views.{view}
use Rattle.runs.proofs.Cycles.{cycled, released_at}
use Rattle.runs.proofs.run.Run.cycle.Goals as goal

pub returns-clause-cycled : goal.returns-clause-cycled
returns-clause-cycled g c =
    let mach = g.E.Engine.machine in
    let run = c.args.self.now in
    let v1 = view c.admit-input.new.self in
    let v3 = view c.release.new.self in
    let entered = c.admit-input.ensures in
    let turn = c.clock-answer.ensures in
    let count = c.count_cycle.ensures in
    cycled (mach run.engine) (mach c.clock-answer.new.self) run.frame.mode run.frame.way (view run.frame) v1 v3
    c.admit-input.result c.clock-answer.result c.release.result turn.answer turn.after
    (released_at run.frame.mode c.count_cycle.new.self.mode run.frame.way c.count_cycle.new.self.way (counted v1) (view c.count_cycle.new.self) v3
    c.clock-answer.result c.release.result (count.same.0 ∙ entered.same.0) (count.same.1 ∙ entered.same.1) count.after c.release.ensures.after)
    c.args.unit entered.after
