-- The rule of the S boxes: each of the 32 rows holds every number from 0 to 15 exactly once.
use Rattle.std.specs.Prelude.{◌≡◌, ℕ, ◌+◌, ◌*◌, ◌<◌, cond, List, [], ◌∷◌, take, drop, ◌==◌}
use Rattle.cipher.specs.Tables.{s_table}

-- how often v stands in the list
abbrev pub times : ℕ → List ℕ → ℕ
times v [] = 0
times v (x ∷ xs) = cond (v == x) 1 0 + times v xs

-- row i of the table, from 0
unfoldable pub row : ℕ → List ℕ
row i = take 16 (drop (i * 16) s_table)

abbrev pub EachOnce : List ℕ → Type 0
EachOnce xs = (v : ℕ) → v < 16 → times v xs ≡ 1
