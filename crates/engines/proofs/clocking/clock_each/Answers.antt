use Rattle.std.proofs.Common.{◌≡◌, ◌<◌, length, take, set, sym, ◌∙◌, subst, arith}
use Rattle.std.proofs.lemmas.List.{set_past}
use Rattle.engines.specs.Cycles.{due, InTime, written_over}
use Rattle.engines.proofs.ManyCycles.{answers_more, in_time, later_more}
use Rattle.engines.proofs.clocking.clock_each.Goals.{then-cycle-answers, else-cycle-answers}
use Rattle.engines.proofs.clocking.clock_each.Goals as goal

pub loop-cycle-preserved : goal.loop-cycle-preserved
loop-cycle-preserved g c =
    let machine = g.E.Engine.machine in
    let m = machine c.args.engine.now in
    let inputs = c.args.inputs.now in
    let i = c.loop-cycle.cycle in
    let ys = c.loop-cycle.answers in
    let answer = c.clock-answer.result in
    let inv = c.loop-cycle.invariant in
    let h : i < length inputs = c.loop-cycle-test.true in
    let put : c.if-cycle-answers.answers ≡ set ys i answer =
    elim c.if-cycle-answers.branch [ then-cycle-answers w ↦ w.answers-is | else-cycle-answers w ↦ w.answers-is ∙ sym (set_past ys i answer w.if-cycle-answers.false) ] in (
      later_more m (machine c.loop-cycle.engine) (machine c.clock-answer.new.self) inputs i h inv.0 c.clock-answer.ensures.after,
      answers_more m (machine c.loop-cycle.engine) inputs c.args.answers.now ys c.if-cycle-answers.answers answer i h inv.0
          c.clock-answer.ensures.answer inv.1 put,
    )

pub returns-clause-timely : goal.returns-clause-timely
returns-clause-timely g c =
    let m = g.E.Engine.machine c.args.engine.now in
    let inputs = c.args.inputs.now in
    let ys = c.args.answers.now in
    let n : c.loop-cycle.cycle ≡ length inputs = omega arith in
    let written : c.loop-cycle.answers ≡ written_over (take (length inputs) (due m inputs)) ys = rw (← n) c.loop-cycle.invariant.1 in
    subst (InTime m inputs) (sym written) (in_time m inputs ys (g.met.E.Engine.places c.args.engine.now))
