use Rattle.std.proofs.Common.{◌≡◌, ℕ, ◌*◌, ◌%◌, ◌^◌, ap, ◌∙◌, mod-eq_of_lt, arith}
use lib.Bits.{bit_or, or_shifted}
use Rattle.cipher.specs.Rounds.{ip_inverse}
use Rattle.cipher.proofs.dea.permutations.leave.Goals as goal

pub returns : goal.returns
returns c =
    let l : ℕ = c.args.halves.0 in
    let r : ℕ = c.args.halves.1 in
    let whole : r * 2 ^ 32 % 2 ^ 64 ≡ r * 2 ^ 32 = mod-eq_of_lt (omega arith) in
    c.permute_back.ensures ∙ ap ip_inverse (ap (λ (h : ℕ). bit_or h l) whole ∙ or_shifted r 32 l (omega arith))
