use Rattle.std.proofs.Common.{◌≡◌, ◌<◌, ◌≤◌, [], length, sym, ◌∙◌, arith}
use Rattle.calls.specs.Calls.{gave}
use Rattle.runs.proofs.DrainReplies.{drain_refuses, drain_accepts, drain_refused, drain_none, drain_some}
use Rattle.runs.proofs.run.Run.drain.Goals as goal

pub returns-then-out-inside-clause-answered : goal.returns-then-out-inside-clause-answered
returns-then-out-inside-clause-answered g c =
    let run = c.args.self.now in
    drain_refused (g.E.Engine.machine run.engine) run.frame c.args.out.now c.len-inside.result c.len-inside.ensures.value c.if-out-inside.true

pub returns-then-out-inside-clause-refusal : goal.returns-then-out-inside-clause-refusal
returns-then-out-inside-clause-refusal g c =
    sym (drain_refuses (length c.args.self.now.frame.pending.items) (length c.args.out.now) c.len-inside.result c.len-inside.ensures.value c.if-out-inside.true (gave []))

pub returns-then-inside-eq0-clause-answered : goal.returns-then-inside-eq0-clause-answered
returns-then-inside-eq0-clause-answered g c =
    let run = c.args.self.now in
    drain_none (g.E.Engine.machine run.engine) run.frame c.args.out.now (sym c.len-inside.ensures.value ∙ c.if-inside-eq0.true)

pub returns-then-inside-eq0-clause-refusal : goal.returns-then-inside-eq0-clause-refusal
returns-then-inside-eq0-clause-refusal g c =
    let none : length c.args.self.now.frame.pending.items ≡ 0 = sym c.len-inside.ensures.value ∙ c.if-inside-eq0.true in
    sym (drain_accepts (length c.args.self.now.frame.pending.items) (length c.args.out.now) (omega arith) (gave []))

pub returns-clause-answered : goal.returns-clause-answered
returns-clause-answered g c =
    let mach = g.E.Engine.machine in
    let run = c.args.self.now in
    let p = c.empty in
    let large : length run.frame.pending.items ≤ length c.args.out.now = omega (arith, c.len-inside.ensures.value, c.if-out-inside.false) in
    let some : 0 < length run.frame.pending.items = omega (arith, c.len-inside.ensures.value, c.if-inside-eq0.false) in
    drain_some (mach run.engine) (mach p.new.self.engine) run.frame p.new.self.frame c.args.out.now p.new.out p.result
    p.ensures.onward.engine some large p.ensures.emptied

pub returns-clause-refusal : goal.returns-clause-refusal
returns-clause-refusal g c =
    sym (drain_accepts (length c.args.self.now.frame.pending.items) (length c.args.out.now) (omega (arith, c.len-inside.ensures.value, c.if-out-inside.false)) (gave []))
