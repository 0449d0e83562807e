-- A word of w bits is a number below 2 ^ w. Its bits count from 1, the highest, to w, the lowest.
use Rattle.std.specs.Prelude.{ℕ, ◌+◌, ◌-◌, ◌*◌, ◌/◌, ◌%◌, ◌^◌, Bool, true, ◌&&◌, List, [], ◌∷◌, length, nat_le}

-- bit p of the word n of w bits
abbrev pub bit : ℕ → ℕ → ℕ → ℕ
bit w n p = n / 2 ^ (w - p) % 2

-- the bits of n at the places that the table names, in the table's order, as one word
unfoldable pub select : ℕ → List ℕ → ℕ → ℕ
select w [] n = 0
select w (p ∷ ps) n = bit w n p * 2 ^ length ps + select w ps n

-- every place that the table names is one of the w bits of a word
abbrev pub places : ℕ → List ℕ → Bool
places w [] = true
places w (p ∷ ps) = (nat_le 1 p && nat_le p w) && places w ps
