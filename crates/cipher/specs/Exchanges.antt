-- Bits that change places in pairs: how the code permutes a word at once.
use Rattle.std.specs.Prelude.{ℕ, ◌*◌, ◌/◌, ◌%◌, ◌^◌, List, [], ◌∷◌, bit_and, bit_xor}

-- the bits of x that the mask m names change places with those s above them
unfoldable pub exchanged : ℕ → ℕ → ℕ → ℕ
exchanged s m x = bit_xor (bit_xor x (bit_and (bit_xor (x / 2 ^ s) x) m)) (bit_and (bit_xor (x / 2 ^ s) x) m * 2 ^ s % 2 ^ 64)

-- exchanges one after the other, each as its distance and mask
abbrev pub all_exchanged : List (ℕ × ℕ) → ℕ → ℕ
all_exchanged [] x = x
all_exchanged (e ∷ es) x = all_exchanged es (exchanged e.0 e.1 x)
