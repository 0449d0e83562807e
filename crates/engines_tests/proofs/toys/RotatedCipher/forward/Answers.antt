use Rattle.std.proofs.Common.{◌≡◌, ℕ, ◌*◌, ◌/◌, ◌%◌, ◌^◌, ◌<◌, bit_or, ap, ◌∙◌, arith}
use Rattle.std.proofs.lemmas.Nat.{or_shifted}
use Rattle.engines_tests.proofs.toys.RotatedCipher.forward.Goals as goal

pub returns : goal.returns
returns c =
    let b = c.args.block in
    let shifted : b * 2 ^ 8 % 2 ^ 64 ≡ b % 2 ^ 56 * 2 ^ 8 = omega arith in
    let low : b / 2 ^ 56 < 2 ^ 8 = omega arith in
    c.rotate_left.ensures ∙ ap (λ (x : ℕ). bit_or x (b / 2 ^ 56)) shifted ∙ or_shifted (b % 2 ^ 56) 8 (b / 2 ^ 56) low
