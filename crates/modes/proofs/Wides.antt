-- Units that are too wide, one after the other.
use Rattle.std.proofs.Common.{◌≡◌, ℕ, ◌+◌, ◌^◌, Bool, true, false, cond, not, ltb, List, [], ◌∷◌, Some, position, refl, ap, ◌∙◌}
use Rattle.std.specs.List.{position_from}
use Rattle.std.proofs.lemmas.Iterator.Adapters.{position_from-zero}
use Rattle.modes.specs.Widths.{first_wide}

-- whether a unit is too wide
abbrev pub is_wide : ℕ → ℕ → Bool
is_wide w u = not (ltb u (2 ^ w))

cond_not : {A : Type 0} (b : Bool) (x y : A) → cond (not b) x y ≡ cond b y x
cond_not true x y = refl
cond_not false x y = refl

first_wide_by_test : (w i : ℕ) (us : List ℕ) → position_from (is_wide w) i us ≡ first_wide w i us
first_wide_by_test w i [] = refl
first_wide_by_test w i (u ∷ us) = cond_not (ltb u (2 ^ w)) (Some i) _ ∙ ap (λ r. cond (ltb u (2 ^ w)) r (Some i)) (first_wide_by_test w (i + 1) us)

-- the first is found by its test
pub first_wide_is_position : (w : ℕ) (us : List ℕ) → position (is_wide w) us ≡ first_wide w 0 us
first_wide_is_position w us = position_from-zero (is_wide w) us ∙ first_wide_by_test w 0 us
