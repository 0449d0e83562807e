-- A stretch: units that enter an engine one after the other, with no drain between them. D is the engine's depth, δ the distance or none.
use Rattle.std.specs.Prelude.{ℕ, zero, suc, ◌+◌, cond, List, [], ◌∷◌, Option, nat_le}
use Rattle.modes.specs.Schedule.{entry, leaving, cost, drained}

-- how many cycles have passed as the last of s units has entered
abbrev pub passed : ℕ → Option ℕ → ℕ → ℕ
passed D δ zero = 0
passed D δ (suc j) = entry D δ j + 1

-- how many of the first s units come out in cycle t or later
abbrev pub coming : ℕ → Option ℕ → ℕ → ℕ → ℕ
coming D δ t zero = 0
coming D δ t (suc j) = coming D δ t j + cond (nat_le t (leaving D δ j)) 1 0

-- how many are in the engine as the last of s units has entered
abbrev pub inside : ℕ → Option ℕ → ℕ → ℕ
inside D δ s = coming D δ (passed D δ s) s

-- the formula: the cycles of some stretches that a drain ended, and of one that is not ended
abbrev pub cycles_of : ℕ → Option ℕ → List ℕ → ℕ → ℕ
cycles_of D δ [] s = cost D δ s
cycles_of D δ (e ∷ es) s = cycles_of D δ es 0 + drained D δ e + cost D δ s
