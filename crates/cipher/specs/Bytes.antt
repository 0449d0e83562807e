-- Blocks in bytes.
use Rattle.std.specs.Prelude.{ℕ, ◌+◌, ◌*◌, ◌^◌, List, slice_index}

-- the block whose eight bytes stand from place p on, the highest first
abbrev pub block_at : List ℕ → ℕ → ℕ
block_at bs p =
    slice_index bs p * 2 ^ 56 + slice_index bs (p + 1) * 2 ^ 48 + slice_index bs (p + 2) * 2 ^ 40 + slice_index bs (p + 3) * 2 ^ 32
    + slice_index bs (p + 4) * 2 ^ 24 + slice_index bs (p + 5) * 2 ^ 16 + slice_index bs (p + 6) * 2 ^ 8 + slice_index bs (p + 7)
