-- Units that are too wide.
use Rattle.std.specs.Prelude.{ℕ, ◌+◌, ◌^◌, cond, List, [], ◌∷◌, Some, None, Option, nat_lt}

-- the index of the first unit of 2 ^ w or more, where the first of the list has index i
abbrev pub first_wide : ℕ → ℕ → List ℕ → Option ℕ
first_wide w i [] = None
first_wide w i (u ∷ us) = cond (nat_lt u (2 ^ w)) (first_wide w (i + 1) us) (Some i)
