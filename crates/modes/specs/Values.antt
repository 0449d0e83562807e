-- Initial values, and how they lie in bytes: eight bytes each, highest byte first.
use Rattle.std.specs.Prelude.{◌≡◌, ℕ, zero, suc, ◌*◌, ◌^◌, ◌<◌, Bool, true, cond, ◌&&◌, List, [], ◌∷◌, ◌++◌, length, Some, None, Option, ◌==◌, nat_lt, slice_index}
use Rattle.modes.specs.declared.values.InitialValues.{InitialValues}
use Rattle.modes.specs.declared.values.InitialValues.TheVariants.{Empty, One, Three}
use Rattle.modes.specs.declared.mode.Mode.{Mode}
use Rattle.cipher.specs.Bytes.{block_at}
use Rattle.modes.specs.Table.{row}

abbrev pub listed : InitialValues → List ℕ
listed Empty = []
listed (One a) = a ∷ []
listed (Three a b c) = a ∷ b ∷ c ∷ []

-- the values in some bytes, where there are 0, 8 or 24
abbrev pub values_in : List ℕ → Option InitialValues
values_in bytes =
    cond (length bytes == 0) (Some Empty)
    (cond (length bytes == 8) (Some (One (block_at bytes 0)))
    (cond (length bytes == 24) (Some (Three (block_at bytes 0) (block_at bytes 8) (block_at bytes 16))) None))

-- the first n blocks in some bytes
abbrev pub blocks_in : ℕ → List ℕ → List ℕ
blocks_in zero bytes = []
blocks_in (suc n) bytes = blocks_in n bytes ++ block_at bytes (8 * n) ∷ []

-- each of some numbers is a block
abbrev pub are_blocks : List ℕ → Bool
are_blocks [] = true
are_blocks (v ∷ vs) = nat_lt v (2 ^ 64) && are_blocks vs

-- as many values as the mode has, each a block
abbrev pub suits : Mode → InitialValues → Bool
suits m values = length (listed values) == (row m).values && are_blocks (listed values)

-- each of a list of numbers is a unit of w bits
abbrev pub Units : ℕ → List ℕ → Type 0
Units w us = (k : ℕ) → k < length us → slice_index us k < 2 ^ w

-- initial values with which a mode can begin
pub record Begins (m : Mode) (ivs : List ℕ) : Type 0 where
  pub count : length ivs ≡ (row m).values
  pub blocks : Units 64 ivs
