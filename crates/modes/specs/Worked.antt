-- Worked values of the definitions.
use Rattle.std.specs.Prelude.{ℕ, List, [], ◌∷◌, Some}
use Rattle.modes.specs.Bits.{shifted}
use Rattle.modes.specs.Schedule.{drained}

-- what is computed, and what it must be
abbrev pub worked : List (ℕ × ℕ)
worked =
    (shifted 8 0x0123456789ABCDEF 0x42, 0x23456789ABCDEF42)
    ∷ (shifted 1 0x8000000000000001 1, 0x0000000000000003)
    ∷ (drained 3 (Some 1) 4, 12)
    ∷ (drained 3 (Some 3) 4, 6)
    ∷ (drained 5 (Some 3) 7, 15)
    ∷ []
