use Rattle.std.proofs.Common.{◌+◌, ap, ◌∙◌}
use Rattle.engines.specs.Cycles.{emptied}
use Rattle.calls.specs.Calls.{new}
use Rattle.runs.proofs.TwoFeeds.{closed_then, from_new}
use Rattle.runs.proofs.whole.run_in_two.Goals as goal

pub returns : goal.returns
returns g c =
    let machine = g.E.Engine.machine in
    let run = c.start-run.result in
    let last = c.feed_twice-answer.new.run in
    let cartridge = c.close.result in
    let twice = closed_then (machine run.engine) (machine last.engine) (machine cartridge.engine) run.frame (last.frame.before + last.frame.taken)
    cartridge.count c.args.first.now c.args.second.now c.args.out.now c.feed_twice-answer.new.out c.feed_twice-answer.result
    (ap machine c.close.ensures.engine) c.close.ensures.count c.feed_twice-answer.ensures in
    let e = c.start-run.ensures.engine ∙ ap (λ x. emptied (machine x)) c.new.ensures.engine in
    let p = from_new (machine c.args.engine) (machine run.engine) (machine cartridge.engine) run.frame c.args.order g.W.Heading.heads
    cartridge.count c.args.first.now c.args.second.now c.args.out.now c.feed_twice-answer.new.out c.feed_twice-answer.result
    e (c.start-run.ensures.started new c.new.ensures.rests) twice in
    record { answer = ap (λ x. x.answer) p.0; count = ap (λ x. x.count) p.0; output = ap (λ x. x.output) p.0; engine = p.1 }
