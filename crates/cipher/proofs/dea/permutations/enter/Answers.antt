use Rattle.std.proofs.Common.{ℕ, ◌/◌, ◌^◌, ap, ◌∙◌}
use lib.Bits.{and_mask}
use Rattle.cipher.specs.Rounds.{halves}
use Rattle.cipher.proofs.dea.permutations.enter.Goals as goal

pub returns : goal.returns
returns c = ap (λ (y : ℕ). (c.permute-x.result / 2 ^ 32, y)) (and_mask c.permute-x.result 32) ∙ ap halves c.permute-x.ensures
