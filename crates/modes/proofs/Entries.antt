-- The schedule: each unit enters in the first cycle in which it may.
use Rattle.std.proofs.Common.{◌≡◌, ℕ, zero, suc, ◌+◌, ◌-◌, ◌*◌, ◌/◌, ◌<◌, ◌≤◌, Some, None, Option, sym, refl, ap, ◌∙◌, subst, ⊎_elim, mul-zero, zero-mul, div-mul-le_self, arith}
use native.Mathlib.Nat.{add-div_right, div-eq_of_lt, div-zero}
use Rattle.std.proofs.lemmas.Nat.{le-div, mul-le}
use Rattle.std.proofs.lemmas.Bool.{cases_lt}
use Rattle.modes.specs.Schedule.{entry, leaving, cost, MayEnter, Schedule}

pub entry_next : (D : ℕ) (δ : Option ℕ) (j : ℕ) → entry D δ j + 1 ≤ entry D δ (j + 1)
entry_next D None j = omega arith
entry_next D (Some zero) j = omega (arith, ap (λ x. x * (D - 0)) (div-zero j ∙ sym (div-zero (j + 1))))
entry_next D (Some (suc d)) j =
    let q : j / suc d ≤ (j + 1) / suc d = le-div (j / suc d) (j + 1) (suc d) (omega arith) (omega (arith, div-mul-le_self j (suc d))) in
    omega (arith, mul-le (j / suc d) (D - suc d) ((j + 1) / suc d) (D - suc d) q (omega arith))

pub entry_least : (D : ℕ) (δ : Option ℕ) (j : ℕ) → j ≤ entry D δ j
entry_least D None j = omega arith
entry_least D (Some δ) j = omega arith

-- before its distance, and in an engine no deeper than the distance, a unit waits for none
pub entry_early : (D δ j : ℕ) → j < δ → entry D (Some δ) j ≡ j
entry_early D δ j l = grind (arith, div-eq_of_lt l, zero-mul (D - δ))

pub entry_flat : (D δ j : ℕ) → D ≤ δ → entry D (Some δ) j ≡ j
entry_flat D δ j l =
    let z : D - δ ≡ 0 = omega arith in
    grind (arith, mul-zero (j / δ))

-- else a distance on is D cycles on
pub entry_apart : (D δ i : ℕ) → 0 < δ → δ ≤ D → entry D (Some δ) (i + δ) ≡ entry D (Some δ) i + D
entry_apart D δ i pos l = grind (arith, add-div_right i pos)

-- a stretch ends as its last unit enters
pub cost_last : (D : ℕ) (δ : Option ℕ) (s : ℕ) → cost D δ (s + 1) ≡ entry D δ s + 1
cost_last D None s = grind arith
cost_last D (Some δ) s = grind arith

-- a result is out before the unit at its distance enters
pub leaving_in_time : (D δ i : ℕ) → 0 < δ → 1 ≤ D → leaving D (Some δ) i < entry D (Some δ) (i + δ)
leaving_in_time D δ i pos deep = grind (arith, entry_flat D δ (i + δ), entry_flat D δ i, entry_apart D δ i pos)

-- in any cycle in which it may enter, its own has come
pub entry_first : (D : ℕ) (δ : Option ℕ) → 1 ≤ D → (δ ≡ Some 0 → ⊥) → (j t : ℕ) → MayEnter D δ j t → entry D δ j ≤ t
entry_first D None deep ne zero t may = omega arith
entry_first D None deep ne (suc j) t may = omega (arith, may.in_order j (omega arith))
entry_first D (Some zero) deep ne j t may = absurd (ne refl)
entry_first D (Some (suc d)) deep ne j t may =
    let turn = in_turn j t may in
    let out = λ (l : suc d ≤ j). may.in_time (suc d) (j - suc d) refl (omega arith) in
    let apart = λ (l : suc d ≤ j) (g : suc d ≤ D). let e : j - suc d + suc d ≡ j = omega arith in
    ap (entry D (Some (suc d))) (sym e) ∙ entry_apart D (suc d) (j - suc d) (omega arith) g in
    grind (arith, entry_early D (suc d) j, entry_flat D (suc d) j, out, apart, turn)
  where
    in_turn : (j t : ℕ) → MayEnter D (Some (suc d)) j t → j ≤ t
    in_turn zero t may = omega arith
    in_turn (suc j) t may = omega (arith, may.in_order j (omega arith), entry_least D (Some (suc d)) j)

pub schedule : Schedule
schedule D δ deep ne j =
    record {
      may = record {
        in_order = λ i e. subst (λ x. entry D δ i < entry D δ x) e (omega (arith, entry_next D δ i));
        in_time = λ d i e at.
            subst (λ x. leaving D δ i < entry D δ x) at
            (subst (λ x. leaving D x i < entry D x (i + d)) (sym e)
            (leaving_in_time D d i (⊎_elim (λ l. l) (λ l. absurd (ne (e ∙ ap Some (omega arith)))) (cases_lt 0 d)) deep));
      };
      first = entry_first D δ deep ne j;
      ended = cost_last D δ j;
      emptied = omega (arith, cost_last D δ j);
    }
