-- How many bytes units take, and how many units lie in bytes.
use Rattle.std.proofs.Common.{◌≡◌, ℕ, zero, suc, ◌*◌, ◌/◌, ◌%◌, ◌≤◌, ◌||◌, eqb, ltb, leb, ◌⊎◌, List, [], ◌∷◌, ◌++◌, length, sym, refl, ap, ◌∙◌, inl, inr, ⊎_elim, append_assoc, mul-zero, mul-suc, div-le_self, div-one, arith, length-append, length-drop}
use native.Mathlib.Nat.{div-add-mod}
use Rattle.std.specs.List.{flat_map}
use Rattle.std.proofs.lemmas.Bool.{cases_Bool, or_cases, eqb-true, leb-true}
use Rattle.std.proofs.lemmas.Bool.Decides.{nat_tests}
use Rattle.modes.specs.declared.mode.Mode.{Mode}
use Rattle.modes.specs.Table.{row}
use Rattle.modes.specs.Values.{blocks_in}
use Rattle.modes.proofs.Fits.{each_passes}
use Rattle.job_format.specs.UnitBytes.{unit_size, units_in, last_bytes, bytes_of_unit, bytes_of}

-- a unit is as wide as a block, or fits in a byte
pub block_or_byte : (m : Mode) → ((row m).width ≡ 64) ⊎ ((row m).width ≤ 8)
block_or_byte m =
    ⊎_elim (λ e. inl (eqb-true (row m).width 64 e)) (λ e. inr (leb-true (row m).width 8 e))
    (or_cases _ _ (each_passes (λ n. eqb (row n).width 64 || leb (row n).width 8) refl m))

unit_size_most : (w : ℕ) → unit_size w ≤ 8
unit_size_most w = grind (arith, nat_tests)

-- units in bytes

pub length_last_bytes : (n u : ℕ) → n ≤ 8 → length (last_bytes n u) ≡ n
length_last_bytes n u most = rw length-drop (omega arith)

pub length_joined_bytes : (n : ℕ) (us : List ℕ) → n ≤ 8 → length (flat_map (last_bytes n) us) ≡ n * length us
length_joined_bytes n [] most = sym (mul-zero n)
length_joined_bytes n (u ∷ us) most =
    rw length-append (omega (arith, length_last_bytes n u most, length_joined_bytes n us most, mul-suc n (length us)))

pub length_bytes_of : (w : ℕ) (us : List ℕ) → length (bytes_of w us) ≡ unit_size w * length us
length_bytes_of w us = length_joined_bytes (unit_size w) us (unit_size_most w)

pub joined_append : (f : ℕ → List ℕ) (us vs : List ℕ) → flat_map f (us ++ vs) ≡ flat_map f us ++ flat_map f vs
joined_append f [] vs = refl
joined_append f (u ∷ us) vs = rw (joined_append f us vs, append_assoc)

pub bytes_of_append : (w : ℕ) (us vs : List ℕ) → bytes_of w (us ++ vs) ≡ bytes_of w us ++ bytes_of w vs
bytes_of_append w us vs = joined_append (bytes_of_unit w) us vs

-- bytes in units

pub length_blocks_in : (n : ℕ) (bs : List ℕ) → length (blocks_in n bs) ≡ n
length_blocks_in zero bs = refl
length_blocks_in (suc n) bs = rw length-append (omega (arith, length_blocks_in n bs))

pub units_in_counted : (w : ℕ) (bytes : List ℕ) → length (units_in w bytes) ≡ length bytes / unit_size w
units_in_counted w bytes =
    ⊎_elim (λ e. rw e (sym (div-one (length bytes)))) (λ e. rw e (length_blocks_in (length bytes / 8) bytes))
    (cases_Bool (ltb w 64))

pub units_in_few : (w : ℕ) (bytes : List ℕ) → length (units_in w bytes) ≤ length bytes
units_in_few w bytes = omega (arith, units_in_counted w bytes, div-le_self (length bytes) (unit_size w))

pub length_units_in : (w : ℕ) (bytes : List ℕ) → length bytes % unit_size w ≡ 0 → unit_size w * length (units_in w bytes) ≡ length bytes
length_units_in w bytes whole =
    ap (λ (x : ℕ). unit_size w * x) (units_in_counted w bytes) ∙ omega (arith, div-add-mod (length bytes) (unit_size w))
