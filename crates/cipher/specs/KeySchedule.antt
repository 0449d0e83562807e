-- The sixteen round keys of a key: PC-1, then a left rotation and PC-2 for each.
use Rattle.std.specs.Prelude.{ℕ, ◌+◌, ◌-◌, ◌*◌, ◌/◌, ◌%◌, ◌^◌, List, [], ◌∷◌}
use Rattle.cipher.specs.Words.{select}
use Rattle.cipher.specs.Tables.{pc1_table, pc2_table, rotation_table}

-- C and D of a key, 28 bits each
unfoldable pub pc1 : ℕ → ℕ × ℕ
pc1 key = (select 64 pc1_table key / 2 ^ 28, select 64 pc1_table key % 2 ^ 28)

-- 28 bits rotated s places to the left
unfoldable pub rotated : ℕ → ℕ → ℕ
rotated s c = c * 2 ^ s % 2 ^ 28 + c / 2 ^ (28 - s)

-- one step of the schedule: C and D are rotated, each by itself
abbrev pub step : ℕ → ℕ × ℕ → ℕ × ℕ
step s (c, d) = (rotated s c, rotated s d)

-- the round key of C and D
unfoldable pub pc2 : ℕ × ℕ → ℕ
pc2 (c, d) = select 56 pc2_table (c * 2 ^ 28 + d)

-- a round key for each of the rotations
abbrev pub round_keys_from : List ℕ → ℕ × ℕ → List ℕ
round_keys_from [] p = []
round_keys_from (s ∷ ss) p = pc2 (step s p) ∷ round_keys_from ss (step s p)

unfoldable pub round_keys_of : ℕ → List ℕ
round_keys_of key = round_keys_from rotation_table (pc1 key)
