-- What comes out of an engine's row in each cycle of a stretch.
use Rattle.std.proofs.Common.{◌≡◌, ℕ, zero, suc, ◌+◌, ◌-◌, ◌<◌, ◌≤◌, eqb, List, [], ◌∷◌, ◌++◌, map, get_or, drop, Some, None, Option, sym, refl, ap, ◌∙◌, subst, ⊎_elim, add-zero, arith}
use Rattle.std.specs.List.{range_with_len}
use Rattle.std.proofs.lemmas.Bool.{cases_lt, eq-eqb, ne_eqb, cond-true, cond-false}
use Rattle.std.proofs.lemmas.Option.{none-some}
use Rattle.modes.specs.Schedule.{entry, leaving}
use Rattle.modes.proofs.Entries.{entry_next}
use Rattle.runs.specs.Standing.{blocks, slot}

-- units enter in their order, one a cycle at most
pub entry_order : (D : ℕ) (δ : Option ℕ) (i j : ℕ) → i ≤ j → entry D δ i + (j - i) ≤ entry D δ j
entry_order D δ i j l = subst (λ k. entry D δ i + (j - i) ≤ entry D δ k) (omega arith) (after (j - i))
  where
    after : (k : ℕ) → entry D δ i + k ≤ entry D δ (i + k)
    after zero = rw (add-zero i) (omega arith)
    after (suc k) =
        let e : i + k + 1 ≡ i + suc k = omega arith in
        subst (λ x. entry D δ i + suc k ≤ entry D δ x) e (omega (arith, after k, entry_next D δ (i + k)))

module _ (D : ℕ) (δ : Option ℕ) (y : ℕ → ℕ) where
  pub slot_none : (s c : ℕ) → ((j : ℕ) → j < s → leaving D δ j ≡ c → ⊥) → slot D δ y s c ≡ None
  slot_none zero c h = refl
  slot_none (suc j) c h = cond-false (eqb (leaving D δ j) c) _ _ (ne_eqb _ _ (h j (omega arith))) ∙ slot_none j c (λ k l. h k (omega arith))

  -- no two come out in one cycle
  pub slot_some : (s h c : ℕ) → h < s → leaving D δ h ≡ c → slot D δ y s c ≡ Some (y h)
  slot_some zero h c l e = absurd (omega arith)
  slot_some (suc j) h c l e = ⊎_elim (λ q. older q (slot_some j h c q e)) newest (cases_lt h j)
    where
      older : h < j → slot D δ y j c ≡ Some (y h) → slot D δ y (suc j) c ≡ Some (y h)
      older q found =
          let later : leaving D δ j ≡ c → ⊥ = λ z. omega (arith, entry_order D δ h j (omega arith)) in
          cond-false (eqb (leaving D δ j) c) _ _ (ne_eqb _ _ later) ∙ found

      newest : j ≤ h → slot D δ y (suc j) c ≡ Some (y h)
      newest q =
          let same : h ≡ j = omega arith in
          cond-true (eqb (leaving D δ j) c) _ _ (eq-eqb _ _ (ap (leaving D δ) (sym same) ∙ e)) ∙ ap (λ k. Some (y k)) (sym same)

pub slot_same : (D : ℕ) (δ : Option ℕ) (y z : ℕ → ℕ) (s c : ℕ) → ((j : ℕ) → j < s → y j ≡ z j) → slot D δ y s c ≡ slot D δ z s c
slot_same D δ y z zero c h = refl
slot_same D δ y z (suc j) c h =
    let a = h j (omega arith) in
    let b = slot_same D δ y z j c (λ k l. h k (omega arith)) in
    cc (a, b)

pub map_same : {X : Type 0} (f g : ℕ → X) (a n : ℕ) → ((k : ℕ) → a ≤ k → k < a + n → f k ≡ g k) → map f (range_with_len a n) ≡ map g (range_with_len a n)
map_same f g a zero h = refl
map_same f g a (suc n) h =
    let p = h a (omega arith) (omega arith) in
    let q = map_same f g (a + 1) n (λ k l r. h k (omega arith) (omega arith)) in
    cc (p, q)

-- how many blocks a row holds as a place joins it, and as it moves on

pub blocks_none : (row : List (Option ℕ)) → blocks (row ++ None ∷ []) ≡ blocks row
blocks_none [] = refl
blocks_none (None ∷ row) = blocks_none row
blocks_none (Some b ∷ row) = ap suc (blocks_none row)

pub blocks_some : (row : List (Option ℕ)) (b : ℕ) → blocks (row ++ Some b ∷ []) ≡ blocks row + 1
blocks_some [] b = refl
blocks_some (None ∷ row) b = blocks_some row b
blocks_some (Some a ∷ row) b = ap suc (blocks_some row b) ∙ omega arith

pub blocks_stay : (row : List (Option ℕ)) → get_or row 0 None ≡ None → blocks (drop 1 row) ≡ blocks row
blocks_stay [] e = refl
blocks_stay (None ∷ row) e = refl
blocks_stay (Some b ∷ row) e = absurd (none-some b (sym e))

pub blocks_go : (row : List (Option ℕ)) (b : ℕ) → get_or row 0 None ≡ Some b → blocks (drop 1 row) + 1 ≡ blocks row
blocks_go [] b e = absurd (none-some b e)
blocks_go (None ∷ row) b e = absurd (none-some b e)
blocks_go (Some a ∷ row) b e = omega arith
