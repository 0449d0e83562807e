-- Crossing with the same mask twice gives a block back.
use Rattle.std.specs.Prelude.{◌≡◌, ℕ, bit_xor}
use Rattle.std.proofs.Common.{ap, ◌∙◌}
use Rattle.std.specs.Int.Bits.{xor_assoc, xor_self, xor_zero_r}

pub crossed_twice : (b k : ℕ) → bit_xor (bit_xor b k) k ≡ b
crossed_twice b k = xor_assoc b k k ∙ ap (bit_xor b) (xor_self k) ∙ xor_zero_r b
