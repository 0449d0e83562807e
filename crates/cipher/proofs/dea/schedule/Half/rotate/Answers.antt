use Rattle.std.proofs.Common.{ℕ, ◌^◌, ◌<◌, sym, ap, ◌∙◌, subst, arith}
use Rattle.cipher.specs.KeySchedule.{rotated}
use Rattle.cipher.proofs.Rotations.{rotated_is, rotated_lt}
use Rattle.cipher.proofs.dea.schedule.Half.rotate.Goals as goal

pub invariant_of-result : goal.invariant_of-result
invariant_of-result c =
    let s : ℕ = c.args.places in
    let bits : ℕ = c.self.inside.0 in
    subst (λ (x : ℕ). x < 2 ^ 28) (sym (rotated_is s bits (omega arith) c.self.invariant)) (rotated_lt s bits (omega arith) c.self.invariant)

pub returns : goal.returns
returns c =
    rotated_is c.args.places c.self.inside.0 (omega arith) c.self.invariant ∙ ap (rotated c.args.places) c.self.view_is
