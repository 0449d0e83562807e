-- Units in bytes. A unit as wide as a block takes eight bytes, the highest first; a narrower one takes one byte.
use Rattle.std.specs.Prelude.{◌≡◌, ℕ, ◌+◌, ◌-◌, ◌/◌, ◌%◌, ◌^◌, cond, List, [], ◌∷◌, ◌++◌, length, take, drop, Some, None, Option, nat_le, nat_lt, slice_index}
use Rattle.std.specs.List.{flat_map}
use Rattle.modes.specs.declared.mode.Mode.{Mode}
use Rattle.modes.specs.Table.{row}
use Rattle.modes.specs.Values.{blocks_in, Units}
use Rattle.job_format.specs.Fields.{Bytes}

-- how many bytes a unit of w bits takes
abbrev pub unit_size : ℕ → ℕ
unit_size w = cond (nat_lt w 64) 1 8

-- the whole units that lie in some bytes
abbrev pub units_in : ℕ → List ℕ → List ℕ
units_in w bytes = cond (nat_lt w 64) bytes (blocks_in (length bytes / 8) bytes)

-- what stands at a place of a list, if it is that long
abbrev pub place : List ℕ → ℕ → Option ℕ
place us i = cond (nat_lt i (length us)) (Some (slice_index us i)) None

-- the eight bytes of a number, the highest first
abbrev pub eight_bytes : ℕ → List ℕ
eight_bytes u =
    u / 2 ^ 56 % 256 ∷ u / 2 ^ 48 % 256 ∷ u / 2 ^ 40 % 256 ∷ u / 2 ^ 32 % 256
    ∷ u / 2 ^ 24 % 256 ∷ u / 2 ^ 16 % 256 ∷ u / 2 ^ 8 % 256 ∷ u % 256 ∷ []

-- the last n of them
abbrev pub last_bytes : ℕ → ℕ → List ℕ
last_bytes n u = drop (8 - n) (eight_bytes u)

-- the bytes of a unit of w bits
abbrev pub bytes_of_unit : ℕ → ℕ → List ℕ
bytes_of_unit w u = last_bytes (unit_size w) u

-- the bytes of some units, one behind the other
abbrev pub bytes_of : ℕ → List ℕ → List ℕ
bytes_of w us = flat_map (bytes_of_unit w) us

-- a list with some bytes written over it from offset p on
abbrev pub overwritten : List ℕ → ℕ → List ℕ → List ℕ
overwritten xs p bytes = take p xs ++ bytes ++ drop (p + length bytes) xs

-- units written from offset p on, where all have room
abbrev pub units_written : ℕ → (us xs : List ℕ) → ℕ → List ℕ
units_written w us xs p = cond (nat_le (p + length (bytes_of w us)) (length xs)) (overwritten xs p (bytes_of w us)) xs

-- the offset behind them
abbrev pub written_end : ℕ → (us xs : List ℕ) → ℕ → Option ℕ
written_end w us xs p = cond (nat_le (p + length (bytes_of w us)) (length xs)) (Some (p + length (bytes_of w us))) None

-- units that were written are read, and whole units are written as they were read
pub record UnitsInBytes : Type 0 where
  pub written_are_read : (m : Mode) (us : List ℕ) → Units (row m).width us → units_in (row m).width (bytes_of (row m).width us) ≡ us
  pub read_are_written : (m : Mode) (bytes : List ℕ) → Bytes bytes → length bytes % unit_size (row m).width ≡ 0
      → bytes_of (row m).width (units_in (row m).width bytes) ≡ bytes
