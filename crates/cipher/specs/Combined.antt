-- The S boxes and P as one table, and E as a window: how the code computes f.
use Rattle.std.specs.Prelude.{ℕ, ◌-◌, ◌*◌, ◌/◌, ◌%◌, ◌^◌, List, map, bit_and, bit_xor}
use Rattle.std.specs.List.{range_with_len}
use Rattle.cipher.specs.Rounds.{s_box, permuted}

-- the four bits of box i, in their place among the 32 and permuted
unfoldable pub permuted_answer : ℕ → ℕ → ℕ
permuted_answer i four = permuted (four * 2 ^ (28 - 4 * i))

-- the table of what box i makes of six bits, at i * 64 + six
unfoldable pub combined : List ℕ
combined = map (λ n. permuted_answer (n / 64) (s_box (n / 64) (n % 64))) (range_with_len 0 512)

-- bit 32, the word, bit 1: each group of six that E selects is six neighbours of these 34
unfoldable pub window : ℕ → ℕ
window r = bit_xor (bit_xor (bit_and r 1 * 2 ^ 33 % 2 ^ 64) (r * 2 ^ 1 % 2 ^ 64)) (r / 2 ^ 31)
