-- Odd parity: every byte of a key has an odd count of ones.
use Rattle.std.specs.Prelude.{◌≡◌, ℕ, ◌+◌, ◌*◌, ◌/◌, ◌%◌, ◌^◌, ◌<◌, cond, List, [], ◌∷◌, Some, None, Option, ◌==◌, count_ones}

-- the index of the first byte with an even count of ones, where the first of the list has index i
abbrev pub first_even : ℕ → List ℕ → Option ℕ
first_even i [] = None
first_even i (b ∷ bs) = cond (count_ones b % 2 == 0) (Some i) (first_even (i + 1) bs)

-- each of the eight bytes of a word has an odd count of ones; byte i counts from the lowest, from 0
abbrev pub OddBytes : ℕ → Type 0
OddBytes word = (i : ℕ) → i < 8 → count_ones (word / 2 ^ (8 * i) % 256) % 2 ≡ 1
