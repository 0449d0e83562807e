-- Worked values: what the definitions make of the numbers of published examples.
use Rattle.std.specs.Prelude.{◌≡◌, ℕ, List, [], ◌∷◌, slice_index}
use Rattle.cipher.specs.Rounds.{ip, ip_inverse, expanded, s_box, permuted}
use Rattle.cipher.specs.KeySchedule.{round_keys_of}

-- each row: what is computed, and its value
abbrev pub worked_value_list : List (ℕ × ℕ)
worked_value_list =
    (ip 0x0123456789ABCDEF, 0xCC00CCFFF0AAF0AA)
    ∷ (expanded 0xF0AAF0AA, 0x7A15557A1555)
    ∷ (slice_index (round_keys_of 0x133457799BBCDFF1) 0, 0x1B02EFFC7072)
    ∷ (s_box 0 0b011000, 5)
    ∷ (permuted 0x5C82B597, 0x234AA9BB)
    ∷ (ip_inverse 0x0A4CD99543423234, 0x85E813540F0AB405)
    ∷ []

-- every row has its value
abbrev pub Hold : List (ℕ × ℕ) → Type 0
Hold [] = Unit {0}
Hold (row ∷ rows) = (row.0 ≡ row.1) × Hold rows
