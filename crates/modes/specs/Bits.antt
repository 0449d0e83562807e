-- The two operations on bits that the feedback modes need. Bit 1 of a block is its highest.
use Rattle.std.specs.Prelude.{ℕ, ◌+◌, ◌-◌, ◌*◌, ◌/◌, ◌%◌, ◌^◌}

-- the leftmost w bits of block o
abbrev pub leftmost : ℕ → ℕ → ℕ
leftmost w o = o / 2 ^ (64 - w)

-- register i with its first w bits dropped and unit c appended
abbrev pub shifted : ℕ → ℕ → ℕ → ℕ
shifted w i c = (i * 2 ^ w + c) % 2 ^ 64
