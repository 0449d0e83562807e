-- Three functions on blocks, one after the other. Forward, the triple of three ciphers is F1, G2, F3 in a row; inverse, G3, F2, G1.
use Rattle.std.specs.Prelude.{ℕ}

abbrev pub in_row : (ℕ → ℕ) → (ℕ → ℕ) → (ℕ → ℕ) → ℕ → ℕ
in_row f g h b = h (g (f b))
