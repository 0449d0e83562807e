-- The widths and distances of each family. All that the laws need to know of the table.
use Rattle.std.proofs.Common.{◌≡◌, ℕ, zero, suc, ◌*◌, ◌/◌, ◌^◌, ◌<◌, ◌≤◌, Bool, true, ◌&&◌, eqb, ltb, leb, List, [], ◌∷◌, Some, sym, refl, ◌∙◌, subst, ⊎_elim, mul_comm, mul-zero, mul-suc, arith, lit<}
use Rattle.std.proofs.lemmas.Bool.{ltb-true, leb-true, and_parts, cases_Bool, cond-true, cond-false}
use Rattle.modes.specs.declared.family.Family.{Family}
use Rattle.modes.specs.declared.family.Family.TheVariants.{Codebook, Chaining, CipherFeedback, OutputFeedback}
use Rattle.modes.specs.declared.way.Way.{Way}
use Rattle.modes.specs.declared.way.Way.TheVariants.{Enciphering, Deciphering}
use Rattle.modes.specs.declared.mode.Mode.{Mode}
use Rattle.modes.specs.declared.mode.Mode.TheVariants.{Ecb, Cbc, CbcInterleaved, Cfb64, Cfb8, Cfb1, CfbPipelined64, CfbPipelined8, CfbPipelined1, Ofb, OfbInterleaved}
use Rattle.modes.specs.Table.{row, first_with, modes, distance, distance_of, CodesNameModes}

abbrev pub Fit : Family → ℕ → ℕ → Type 0
Fit Codebook w δ = w ≡ 64
Fit Chaining w δ = (w ≡ 64) × (0 < δ)
Fit CipherFeedback w δ = (w * (64 / w) ≡ 64) × (0 < δ)
Fit OutputFeedback w δ = (w ≡ 64) × (0 < δ)

-- what is computed for the whole table holds of each mode

abbrev passes : (Mode → Bool) → List Mode → Bool
passes test [] = true
passes test (m ∷ ms) = test m && passes test ms

first_passes : (test : Mode → Bool) (code : ℕ) (ms : List Mode) (m : Mode) → first_with code ms ≡ Some m → passes test ms ≡ true → test m ≡ true
first_passes test code [] m e h = cc
first_passes test code (n ∷ ms) m e h =
    let p = and_parts (test n) (passes test ms) h in
    ⊎_elim
    (λ t. let same : n ≡ m = let q : Some n ≡ Some m = sym (cond-true _ _ _ t) ∙ e in cc in subst (λ x. test x ≡ true) same p.0)
    (λ t. first_passes test code ms m (sym (cond-false _ _ _ t) ∙ e) p.1)
    (cases_Bool (eqb code (row n).code))

pub codes_name_modes : CodesNameModes
codes_name_modes = elim [
  | Ecb ↦ refl
  | Cbc ↦ refl
  | CbcInterleaved ↦ refl
  | Cfb64 ↦ refl
  | Cfb8 ↦ refl
  | Cfb1 ↦ refl
  | CfbPipelined64 ↦ refl
  | CfbPipelined8 ↦ refl
  | CfbPipelined1 ↦ refl
  | Ofb ↦ refl
  | OfbInterleaved ↦ refl
]

pub each_passes : (test : Mode → Bool) → passes test modes ≡ true → (m : Mode) → test m ≡ true
each_passes test h m = first_passes test (row m).code modes m (codes_name_modes m) h

pub fit : (m : Mode) → Fit (row m).family (row m).width (row m).values
fit = elim [
  | Ecb ↦ refl
  | Cbc ↦ (refl, lit< tt)
  | CbcInterleaved ↦ (refl, lit< tt)
  | Cfb64 ↦ (refl, lit< tt)
  | Cfb8 ↦ (refl, lit< tt)
  | Cfb1 ↦ (refl, lit< tt)
  | CfbPipelined64 ↦ (refl, lit< tt)
  | CfbPipelined8 ↦ (refl, lit< tt)
  | CfbPipelined1 ↦ (refl, lit< tt)
  | Ofb ↦ (refl, lit< tt)
  | OfbInterleaved ↦ (refl, lit< tt)
]

pub code_is_byte : (m : Mode) → (row m).code < 2 ^ 8
code_is_byte m = ltb-true (row m).code (2 ^ 8) (each_passes (λ n. ltb (row n).code (2 ^ 8)) refl m)

pub values_within : (m : Mode) → (row m).values ≤ 3
values_within m = leb-true (row m).values 3 (each_passes (λ n. leb (row n).values 3) refl m)

-- no unit waits for its own result
pub distance_proper : (m : Mode) (way : Way) → distance_of m way ≡ Some 0 → ⊥
distance_proper m way e = proper (row m).family way (row m).width (row m).values (fit m) e
  where
    proper : (f : Family) (way : Way) (w δ : ℕ) → Fit f w δ → distance f way δ ≡ Some 0 → ⊥
    proper Codebook way w δ fit e = cc
    proper Chaining Enciphering w δ fit e = let z : δ ≡ 0 = cc in omega (arith, fit.1)
    proper Chaining Deciphering w δ fit e = cc
    proper CipherFeedback Enciphering w δ fit e = let z : δ ≡ 0 = cc in omega (arith, fit.1)
    proper CipherFeedback Deciphering w δ fit e = cc
    proper OutputFeedback way w δ fit e = let z : δ ≡ 0 = cc in omega (arith, fit.1)

-- units of 64 bits are blocks
pub as_block : {w : ℕ} → w ≡ 64 → (x : ℕ) → x < 2 ^ w → x < 2 ^ 64
as_block e x h = subst (λ k. x < 2 ^ k) e h

pub as_unit : {w : ℕ} → w ≡ 64 → (x : ℕ) → x < 2 ^ 64 → x < 2 ^ w
as_unit e x h = subst (λ k. x < 2 ^ k) (sym e) h

pub width_le : (w q : ℕ) → w * q ≡ 64 → w ≤ 64
width_le w zero h = absurd (omega (arith, mul-zero w))
width_le w (suc q) h = omega (arith, mul-suc w q)

-- a register holds at least one unit
pub register_holds : (w : ℕ) → w * (64 / w) ≡ 64 → (q : ℕ) × (64 / w ≡ suc q) × (suc q * w ≡ 64)
register_holds w h = holds (64 / w) h
  where
    holds : (x : ℕ) → w * x ≡ 64 → (q : ℕ) × (x ≡ suc q) × (suc q * w ≡ 64)
    holds zero e = absurd (omega (arith, mul-zero w))
    holds (suc q) e = (q, refl, mul_comm (suc q) w ∙ e)
