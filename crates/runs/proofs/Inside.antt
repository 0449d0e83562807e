-- Which units of a stretch are inside, and when all are out.
use Rattle.std.proofs.Common.{◌≡◌, ℕ, zero, suc, ◌+◌, ◌-◌, ◌<◌, ◌≤◌, cond, leb, List, Some, Option, sym, ap, ◌∙◌, ⊎_elim, add-one, arith}
use Rattle.std.proofs.lemmas.Bool.{cases_lt, le-leb, lt-leb, cond-true, cond-false}
use Rattle.engines.specs.Machines.{Machine}
use Rattle.modes.specs.declared.mode.Mode.{Mode}
use Rattle.modes.specs.declared.way.Way.{Way}
use Rattle.modes.specs.Schedule.{entry, leaving}
use Rattle.modes.specs.Table.{distance_of}
use Rattle.modes.proofs.Entries.{entry_next, entry_first, leaving_in_time}
use Rattle.calls.specs.Stretches.{passed, coming, inside}
use Rattle.runs.specs.Steps.{View}
use Rattle.runs.specs.Standing.{Standing}
use Rattle.runs.proofs.Slots.{entry_order}

pub passed_next : (D : ℕ) (δ : Option ℕ) (s : ℕ) → passed D δ (s + 1) ≡ entry D δ s + 1
passed_next D δ s = ap (passed D δ) (add-one s)

-- the next unit's cycle is no earlier, and without a distance it is the next
pub passed_early : (D : ℕ) (δ : Option ℕ) (s : ℕ) → passed D δ s ≤ entry D δ s
passed_early D δ zero = omega arith
passed_early D δ (suc s) = rw (sym (add-one s)) (entry_next D δ s)

-- how many of s units are to come out from cycle t on, where the first h are out
coming_is : (D : ℕ) (δ : Option ℕ) (t s h : ℕ) → h ≤ s → ((j : ℕ) → j < h → leaving D δ j < t) → ((j : ℕ) → h ≤ j → j < s → t ≤ leaving D δ j)
    → coming D δ t s ≡ s - h
coming_is D δ t zero h l gone here = omega arith
coming_is D δ t (suc s) h l gone here =
    ⊎_elim
    (λ q. let ih = coming_is D δ t s h (omega arith) gone (λ j a b. here j a (omega arith)) in
    let c : cond {A = ℕ} (leb t (leaving D δ s)) 1 0 ≡ 1 = cond-true {A = ℕ} (leb t (leaving D δ s)) 1 0 (le-leb t (leaving D δ s) (here s (omega arith) (omega arith))) in
    omega (arith, ih, c))
    (λ q. let ih = coming_is D δ t s s (omega arith) (λ j a. gone j (omega arith)) (λ j a b. absurd (omega arith)) in
    let c : cond {A = ℕ} (leb t (leaving D δ s)) 1 0 ≡ 0 = cond-false {A = ℕ} (leb t (leaving D δ s)) 1 0 (lt-leb t (leaving D δ s) (gone s (omega arith))) in
    omega (arith, ih, c))
    (cases_lt h (suc s))

module _ (mach : Machine) (m : Mode) (way : Way) (ivs us : List ℕ) (base s h t past : ℕ) (v : View) (st : Standing mach m way ivs us base s h t past v) where
  abbrev D : ℕ
  D = mach.depth

  abbrev δ : Option ℕ
  δ = distance_of m way

  -- as the last unit has entered, the schedule counts those that are inside
  pub inside_is : t ≡ passed D δ s → inside D δ s ≡ s - h
  inside_is e =
      ap (λ k. coming D δ k s) (sym e)
      ∙ coming_is D δ t s h st.some st.gone (λ j a b. omega (arith, st.here (omega arith), entry_order D δ h j a))

  -- none is inside for as many cycles as the engine is deep
  pub all_out : 1 ≤ D → passed D δ s + (D - 1) ≤ t → h ≡ s
  all_out deep late =
      ⊎_elim
      (λ l. absurd (omega (arith, st.here l, entry_order D δ h (s - 1) (omega arith), last s (omega arith))))
      (λ l. omega (arith, st.some))
      (cases_lt h s)
    where
      last : (n : ℕ) → 0 < n → entry D δ (n - 1) + 1 ≤ passed D δ n
      last zero l = absurd (omega arith)
      last (suc n) l = let e : suc n - 1 ≡ n = omega arith in rw e (omega arith)

  -- while as many as the distance are inside, the next unit's cycle is to come
  pub waits : (d : ℕ) → δ ≡ Some d → 1 ≤ D → 0 < d → d ≤ s - h → t < entry D δ s
  waits d e deep pos l =
      let some = st.some in
      let hl : h < s = omega arith in
      let intime : leaving D δ h < entry D δ (h + d) = rw e (leaving_in_time D d h pos deep) in
      omega (arith, st.here hl, entry_order D δ (h + d) s (omega arith))

  -- once fewer are inside, it has come
  pub has_come : 1 ≤ D → (δ ≡ Some 0 → ⊥) → ((d : ℕ) → δ ≡ Some d → s - h < d) → entry D δ s ≤ t
  has_come deep proper few =
      entry_first D δ deep proper s t
      (record {
        in_order = λ i e. st.due i (omega arith);
        in_time = λ d i e q. let l = few d e in st.gone i (omega (arith, st.some));
      })
