use Rattle.std.proofs.Common.{◌≡◌, List, ℕ, [], ◌++◌, ◌∷◌, sym, ap, ◌∙◌, append_assoc, rules}
use Rattle.std.proofs.lemmas.List.{append-nil}
use Rattle.std.proofs.lemmas.Result.{err_from_is_err_and}
use Rattle.modes.specs.Table.{row}
use Rattle.runs.proofs.Emptying.{same_then}
use Rattle.job_format.specs.UnitBytes.{units_in}
use Rattle.job_format.specs.UnitsLeft.{units_left}
use Rattle.jobs.proofs.CarriedOut.{fed_more, feed_never_refused, drain_never_refused, carried_out, in_list}
use Rattle.jobs.proofs.carrying.carry.Goals as goal

pub loop-unit-preserved : goal.loop-unit-preserved
loop-unit-preserved g c =
    let machine = g.E.Engine.machine in
    let run = c.args.run.now in
    let before = c.loop-unit.run in
    let after = c.feed_unit.new.run in
    let writer = c.loop-unit.writer in
    let next = c.feed_unit.new.writer in
    let feed = c.in_ok-feed_unit.ensures in
    let invariant = c.loop-unit.invariant in
    let yielded : List ℕ = c.loop-unit.yielded in
    let rest = units_left c.next.new.self in
    let here : units_in (row c.args.passage.order.mode).width c.args.passage.«data».now ≡ yielded ++ c.in-Some.unit ∷ rest = invariant.left ∙ ap (λ l. yielded ++ l) c.in-Some.ensures.steps in
    record {
      same = same_then (machine run.engine) (machine before.engine) (machine after.engine) invariant.same feed.same;
      fed = fed_more (machine run.engine) (machine before.engine) (machine after.engine) run.frame before.frame after.frame
          c.args.passage.«data».now c.new-writer.result.out.now writer.out.now next.out.now yielded rest c.in-Some.unit writer.end next.end
          c.args.passage.order.mode writer.mode invariant.mode here invariant.fed feed.fed;
      left = here ∙ sym (append_assoc yielded (c.in-Some.unit ∷ []) rest);
      reference = feed.reference ∙ invariant.reference;
      mode = feed.mode ∙ invariant.mode;
    }

pub returns-in_err-feed_unit : goal.returns-in_err-feed_unit
returns-in_err-feed_unit g c =
    let p = err_from_is_err_and c.from_residual.result c.from_residual.ensures.1 in
    let machine = g.E.Engine.machine in
    let run = c.args.run.now in
    let before = c.loop-unit.run in
    let after = c.feed_unit.new.run in
    let writer = c.loop-unit.writer in
    let next = c.feed_unit.new.writer in
    let feed = c.in_err-feed_unit.ensures in
    let invariant = c.loop-unit.invariant in
    let yielded : List ℕ = c.loop-unit.yielded in
    let rest = units_left c.next.new.self in
    let here : units_in (row c.args.passage.order.mode).width c.args.passage.«data».now ≡ yielded ++ c.in-Some.unit ∷ rest = invariant.left ∙ ap (λ l. yielded ++ l) c.in-Some.ensures.steps in
    let held = sym (feed.reference ∙ invariant.reference ∙ c.new-writer.ensures.reference) in
    rw p.1
    (in_list (machine run.engine) run.frame c.args.passage.order.mode c.args.passage.«data».now c.args.out.now c.new-writer.result.out.now _ next.out.now _
    c.new-writer.ensures.output (search (rules, held))
    (feed_never_refused (machine run.engine) (machine before.engine) (machine after.engine) run.frame before.frame after.frame
    c.args.passage.«data».now c.new-writer.result.out.now writer.out.now next.out.now yielded rest c.in-Some.unit writer.end next.end
    c.args.passage.order.mode writer.mode invariant.mode here invariant.fed _ _ feed.fed))

pub returns-in_err-drain_off : goal.returns-in_err-drain_off
returns-in_err-drain_off g c =
    let p = err_from_is_err_and c.from_residual-in_err-drain_off.result c.from_residual-in_err-drain_off.ensures.1 in
    let machine = g.E.Engine.machine in
    let run = c.args.run.now in
    let fed = c.loop-unit.run in
    let drained = c.drain_off.new.run in
    let writer = c.loop-unit.writer in
    let next = c.drain_off.new.writer in
    let drain = c.in_err-drain_off.ensures in
    let invariant = c.loop-unit.invariant in
    let yielded : List ℕ = c.loop-unit.yielded in
    let whole : units_in (row c.args.passage.order.mode).width c.args.passage.«data».now ≡ yielded = invariant.left ∙ ap (λ l. yielded ++ l) c.in-None.ensures.steps.0 ∙ append-nil yielded in
    let held = sym (drain.reference ∙ invariant.reference ∙ c.new-writer.ensures.reference) in
    rw p.1
    (in_list (machine run.engine) run.frame c.args.passage.order.mode c.args.passage.«data».now c.args.out.now c.new-writer.result.out.now _ next.out.now _
    c.new-writer.ensures.output (search (rules, held))
    (drain_never_refused (machine run.engine) (machine fed.engine) (machine drained.engine) run.frame fed.frame drained.frame
    c.args.passage.«data».now c.new-writer.result.out.now writer.out.now next.out.now yielded writer.end next.end
    c.args.passage.order.mode writer.mode invariant.mode whole invariant.fed _ _ drain.drained))

pub returns : goal.returns
returns g c =
    let machine = g.E.Engine.machine in
    let run = c.args.run.now in
    let fed = c.loop-unit.run in
    let drained = c.drain_off.new.run in
    let writer = c.loop-unit.writer in
    let next = c.drain_off.new.writer in
    let drain = c.in_ok-drain_off.ensures in
    let invariant = c.loop-unit.invariant in
    let yielded : List ℕ = c.loop-unit.yielded in
    let whole : units_in (row c.args.passage.order.mode).width c.args.passage.«data».now ≡ yielded = invariant.left ∙ ap (λ l. yielded ++ l) c.in-None.ensures.steps.0 ∙ append-nil yielded in
    let held = sym (drain.reference ∙ invariant.reference ∙ c.new-writer.ensures.reference) in
    in_list (machine run.engine) run.frame c.args.passage.order.mode c.args.passage.«data».now c.args.out.now c.new-writer.result.out.now _ next.out.now _
    c.new-writer.ensures.output (search (rules, held))
    (carried_out (machine run.engine) (machine fed.engine) (machine drained.engine) run.frame fed.frame drained.frame
    c.args.passage.«data».now c.new-writer.result.out.now writer.out.now next.out.now yielded writer.end next.end
    c.args.passage.order.mode writer.mode invariant.mode whole invariant.fed c.units_taken.result c.cycles.result c.written.result
    (same_then (machine run.engine) (machine fed.engine) (machine drained.engine) invariant.same drain.same)
    drain.drained c.units_taken.ensures.value c.cycles.ensures.value c.written.ensures)
