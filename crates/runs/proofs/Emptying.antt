-- A feed with a drain after it, in a list of calls whose answers were due.
use Rattle.std.proofs.Common.{◌≡◌, ℕ, zero, suc, ◌+◌, ◌-◌, ◌*◌, ◌≤◌, Bool, true, false, cond, ltb, leb, ◌⊎◌, List, [], ◌∷◌, ◌++◌, length, take, drop, replicate, Some, None, Ok, Err, Option, sym, refl, ap, ◌∙◌, subst, inl, inr, ⊎_elim, add-zero, arith}
use native.Mathlib.Nat.{div-zero}
use Rattle.std.proofs.lemmas.List.FromFn.{length-map-range_with_len}
use Rattle.std.proofs.lemmas.List.{length-append, length-drop, append_assoc, drop-drop, take_at, drop_at}
use Rattle.std.proofs.lemmas.Bool.{le-leb, ltb-false, cond-true, cases_lt}
use Rattle.refusals.specs.declared.Refusal.{Refusal}
use Rattle.engines.specs.Machines.{Machine}
use Rattle.engines.specs.Cycles.{emptied}
use Rattle.modes.specs.Schedule.{entry, leaving}
use Rattle.modes.specs.Values.{listed}
use Rattle.modes.specs.Results.{results}
use Rattle.modes.proofs.Entries.{entry_flat}
use Rattle.modes.proofs.Receiving.{length_results}
use Rattle.calls.specs.Stretches.{passed, inside}
use Rattle.calls.specs.Calls.{Answer, Calls, gave, refused, fed, drained, order_of, way_of, taken, handed_out, stretch}
use Rattle.calls.specs.Due.{distance_in, inside_in, cycles_passed, refusal_to_feed, Follows}
use Rattle.calls.proofs.Stretching.{passed_is_cost}
use Rattle.calls.proofs.Accepted.{drain_gives}
use Rattle.calls.proofs.OpenRun.{progress, balanced}
use Rattle.runs.specs.declared.frame.Frame.{Frame}
use Rattle.runs.specs.Standing.{blocks}
use Rattle.runs.specs.Stands.{Stands}
use Rattle.runs.specs.Handing.{Answered, feed_refusal, Fed, Drained}
use Rattle.runs.specs.Whole.{cycles_for}
use Rattle.runs.specs.Emptying.{Emptied, FedEmpty}
use Rattle.runs.proofs.Numbers.{in_row_told}
pub use Rattle.runs.proofs.Onwards.{same_then}
use Rattle.runs.proofs.Rests.{refilled, refilled_is}
use Rattle.runs.proofs.DrainReplies.{drain_accepts}

-- ---- an engine with nothing in it

-- an engine one deep holds nothing between cycles; in a deeper one a stretch leaves its last unit inside
pub nothing_inside : (D : ℕ) (δ : Option ℕ) (s : ℕ) → inside D δ s ≡ 0 → (s ≡ 0) ⊎ (D ≤ 1)
nothing_inside D δ zero e = inl refl
nothing_inside D δ (suc s) e =
    ⊎_elim
    (λ l. let last : cond {A = ℕ} (leb (entry D δ s + 1) (leaving D δ s)) 1 0 ≡ 1 =
    cond-true {A = ℕ} _ 1 0 (le-leb (entry D δ s + 1) (leaving D δ s) (omega arith)) in
    absurd (omega arith))
    (λ l. inr l)
    (cases_lt 1 D)

-- there each unit costs one cycle
entry_one_deep : (δ : Option ℕ) (j : ℕ) → entry 1 δ j ≡ j
entry_one_deep None j = refl
entry_one_deep (Some zero) j = ap (λ x. j + x * (1 - 0)) (div-zero j) ∙ omega arith
entry_one_deep (Some (suc d)) j = entry_flat 1 (suc d) j (omega arith)

passed_one_deep : (D : ℕ) (δ : Option ℕ) (s : ℕ) → D ≡ 1 → passed D δ s ≡ s
passed_one_deep D δ zero e = refl
passed_one_deep D δ (suc s) e = let one : entry D δ s ≡ s = ap (λ d. entry d δ s) e ∙ entry_one_deep δ s in omega arith

-- units behind a stretch that left nothing inside cost what they cost as a stretch of their own
passed_behind : (D : ℕ) (δ : Option ℕ) (s n : ℕ) → 1 ≤ D → inside D δ s ≡ 0 → passed D δ (s + n) - passed D δ s ≡ passed D δ n
passed_behind D δ s n deep quiet =
    ⊎_elim
    (λ e. let k : s + n ≡ n = omega arith in
    let p : passed D δ (s + n) ≡ passed D δ n = ap (passed D δ) k in
    let q : passed D δ s ≡ 0 = ap (passed D δ) e in
    omega arith)
    (λ l. let e : D ≡ 1 = omega arith in
    omega (arith, passed_one_deep D δ (s + n) e, passed_one_deep D δ s e, passed_one_deep D δ n e))
    (nothing_inside D δ s quiet)

-- no blocks: every place is empty
no_blocks : (places : List (Option ℕ)) → blocks places ≡ 0 → places ≡ replicate (length places) None
no_blocks [] e = refl
no_blocks (None ∷ places) e = ap (λ xs. None ∷ xs) (no_blocks places e)
no_blocks (Some b ∷ places) e = absurd (omega arith)

-- ---- a run that stands for calls

module _ (mach : Machine) (f : Frame) (calls : Calls true) (stands : Stands mach f calls) where
  -- with nothing inside all results are out
  pub results_out : inside_in mach.depth calls ≡ 0
      → handed_out calls ≡ results mach.forward mach.inverse (order_of calls).mode (way_of calls) (listed (order_of calls).values) (taken calls) (length (taken calls))
  results_out quiet =
      let all : length (taken calls) - inside_in mach.depth calls ≡ length (taken calls) = omega arith in
      (progress _ _ _ calls stands.follows).front
      ∙ ap (results mach.forward mach.inverse (order_of calls).mode (way_of calls) (listed (order_of calls).values) (taken calls)) all

  -- and its engine rests
  pub engine_rests : inside_in mach.depth calls ≡ 0 → mach ≡ emptied mach
  engine_rests quiet =
      let size : length mach.row ≡ mach.depth - 1 = ap length stands.at_work.standing.line ∙ length-map-range_with_len _ _ _ in
      let row : mach.row ≡ replicate (mach.depth - 1) None =
      no_blocks mach.row (in_row_told mach f calls stands ∙ quiet) ∙ ap (λ n. replicate n None) size in
      λ i. record { forward = mach.forward; inverse = mach.inverse; depth = mach.depth; row = row i }

-- ---- answers

-- an answer that tells a number gave so many units, and one that tells a refusal refused so
pub gave_by : (xs ys : List ℕ) (n : ℕ) (a : Answer) → Answered xs ys (Ok n) a
    → (hs : List ℕ) × (a ≡ gave hs) × (n ≡ length hs) × (ys ≡ hs ++ drop (length hs) xs)
gave_by xs ys n (gave hs) p = (hs, refl, p.0, p.1)
gave_by xs ys n (refused e) p = absurd p

pub refused_by : (xs ys : List ℕ) (e : Refusal) (a : Answer) → Answered xs ys (Err e) a → (a ≡ refused e) × (ys ≡ xs)
refused_by xs ys e (gave hs) p = absurd p
refused_by xs ys e (refused e') p = (ap refused (sym p.0), p.1)

-- a feed that was not refused had room
fed_room : (in_engine width count : ℕ) (us : List ℕ) (room : ℕ) (hs due : List ℕ)
    → gave hs ≡ refusal_to_feed in_engine width count us room (gave due) → in_engine + length us ≤ room
fed_room in_engine width count us room hs due e = ltb-false _ _ (passes (ltb room (in_engine + length us)) _ _ e)
  where
    passes : (small : Bool) (a : Refusal) (otherwise : Answer) → gave hs ≡ cond small (refused a) otherwise → small ≡ false
    passes true a otherwise e = let z : ◌≡◌ {A = ℕ} 0 1 = cc in absurd (omega arith)
    passes false a otherwise e = refl

-- ---- units that were fed and drained

module _ (F G : ℕ → ℕ) (D : ℕ) (calls : Calls true) where
  -- what a feed gave, and what is inside then, was inside or came
  pub fed_count : (us : List ℕ) (room : ℕ) (hs : List ℕ) → Follows F G D (fed us room (gave hs) calls)
      → length hs + inside_in D (fed us room (gave hs) calls) ≡ inside_in D calls + length us
  fed_count us room hs f =
      omega (arith, balanced F G D calls f.1, balanced F G D (fed us room (gave hs) calls) f, length-append (taken calls) us, length-append (handed_out calls) hs)

  -- a drain gives all that is inside
  pub drained_count : (room : ℕ) (ks : List ℕ) → Follows F G D (drained room (gave ks) calls) → length ks ≡ inside_in D calls
  drained_count room ks f =
      let n = length (taken calls) in
      let m = inside_in D calls in
      let few : m ≤ n = omega (arith, balanced F G D calls f.1) in
      ap length (drain_gives _ room ks _ f.0)
      ∙ length-drop (n - m) _
      ∙ omega (arith, length_results F G (order_of calls).mode (way_of calls) (listed (order_of calls).values) (taken calls) n)

  -- so that nothing is left
  pub drained_empty : (room : ℕ) (ks : List ℕ) → Follows F G D (drained room (gave ks) calls) → inside_in D (drained room (gave ks) calls) ≡ 0
  drained_empty room [] f = sym (drained_count room [] f)
  drained_empty room (k ∷ ks) f = refl

module _ (F G : ℕ → ℕ) (D : ℕ) (deep : 1 ≤ D) (calls : Calls true) (quiet : inside_in D calls ≡ 0) (room room' : ℕ) (hs : List ℕ) where
  -- where nothing was inside, the cycles are those of the schedule
  pub cycles_of_feed : (us ks : List ℕ) → Follows F G D (drained room' (gave ks) (fed us room (gave hs) calls))
      → cycles_passed D (drained room' (gave ks) (fed us room (gave hs) calls)) ≡ cycles_passed D calls + cycles_for D (distance_in calls) us
  cycles_of_feed [] [] f = omega (arith, passed_behind D (distance_in calls) (stretch calls) 0 deep quiet)
  cycles_of_feed [] (k ∷ ks) f =
      let none : inside D (distance_in calls) (stretch calls + 0) ≡ 0 =
      ap (inside D (distance_in calls)) (add-zero (stretch calls)) ∙ quiet in
      absurd (omega (arith, drained_count F G D (fed [] room (gave hs) calls) room' (k ∷ ks) f))
  cycles_of_feed (u ∷ us) [] f =
      let n = length (u ∷ us) in
      let flat : D ≤ 1 =
      ⊎_elim (λ e. absurd (omega arith)) (λ l. l)
      (nothing_inside D (distance_in calls) (stretch calls + n) (sym (drained_count F G D (fed (u ∷ us) room (gave hs) calls) room' [] f))) in
      omega (arith, passed_behind D (distance_in calls) (stretch calls) n deep quiet, passed_is_cost D (distance_in calls) n)
  cycles_of_feed (u ∷ us) (k ∷ ks) f =
      let n = length (u ∷ us) in
      omega (arith, passed_behind D (distance_in calls) (stretch calls) n deep quiet, passed_is_cost D (distance_in calls) n)

-- ---- a feed and a drain, by their contracts

-- what is written behind what stands first
pub written_behind : (xs ys ws zs hs ks : List ℕ) (given : ℕ) → given ≡ length hs → ys ≡ hs ++ drop (length hs) xs → ws ≡ drop given ys
    → zs ≡ ks ++ drop (length ks) ws
    → refilled ys given zs ≡ (hs ++ ks) ++ drop (length (hs ++ ks)) xs
written_behind xs ys ws zs hs ks given count output rest more =
    let front : take given ys ≡ hs = ap (take given) output ∙ take_at hs (drop (length hs) xs) given (sym count) in
    let left : ws ≡ drop (length hs) xs = rest ∙ ap (drop given) output ∙ drop_at hs (drop (length hs) xs) given (sym count) in
    let over = drop-drop (length ks) (length hs) xs in
    let both = length-append hs ks in
    let whole = refilled_is ys zs given in
    let assoc = append_assoc hs ks (drop (length hs + length ks) xs) in
    cc (front, left, over, both, whole, more, assoc)

module _ (mach1 mach2 : Machine) (f1 f2 : Frame) (calls : Calls true) (us xs ys ws zs hs : List ℕ) (given : ℕ) (count : given ≡ length hs)
    (output : ys ≡ hs ++ drop (length hs) xs) (rest : ws ≡ drop given ys)
    (stands : Stands mach1 f1 (fed us (length xs) (gave hs) calls)) where
  rest_is : ws ≡ drop (length hs) xs
  rest_is = rest ∙ ap (drop given) output ∙ drop_at hs (drop (length hs) xs) given (sym count)

  room_left : length ws ≡ length xs - length hs
  room_left = ap length rest_is ∙ length-drop (length hs) xs

  -- the drain has room
  pub drain_fits : (e : Refusal) → Drained mach1 mach2 f1 f2 ws zs (Err e) → ⊥
  drain_fits e answers =
      let f = stands.follows in
      let fits : inside_in mach1.depth (fed us (length xs) (gave hs) calls) ≤ length ws =
      omega (arith, room_left, fed_count _ _ _ calls us (length xs) hs f, fed_room _ _ _ us (length xs) hs _ f.0) in
      subst (Answered ws zs (Err e)) (drain_accepts _ (length ws) fits _) (answers (fed us (length xs) (gave hs) calls) stands).0

  pub emptied_by : (n : ℕ) → Drained mach1 mach2 f1 f2 ws zs (Ok n)
      → Emptied mach2 f2 calls us xs (refilled ys given zs) (given + n)
  emptied_by n answers =
      let a = answers (fed us (length xs) (gave hs) calls) stands in
      let p = gave_by ws zs n _ a.0 in
      let ks = p.0 in
      record {
        hs = hs;
        ks = ks;
        count = omega (arith, p.2, length-append hs ks);
        output = written_behind xs ys ws zs hs ks given count output rest p.3;
        stands =
            rw (sym room_left, sym p.1) a.1;
      }

module _ (mach mach1 : Machine) (f f1 : Frame) (us xs ys : List ℕ) where
  pub refused_at_once : (e : Refusal) → refused e ≡ feed_refusal f us (length xs) → Fed mach mach1 f f1 us xs ys (Err e)
      → FedEmpty mach mach1 f f1 us xs ys (Err e)
  refused_at_once e refusal feeds calls stands =
      let a = feeds calls stands in
      let p = refused_by xs ys e _ a.0 in
      (refusal, (p.1, subst (λ b. Stands mach1 f1 (fed us (length xs) b calls)) p.0 a.1))

  module _ (mach2 : Machine) (f2 : Frame) (ws zs : List ℕ) (given : ℕ) (rest : ws ≡ drop given ys) (feeds : Fed mach mach1 f f1 us xs ys (Ok given)) where
    pub never_refused : (e : Refusal) → Drained mach1 mach2 f1 f2 ws zs (Err e) → (calls : Calls true) → Stands mach f calls → ⊥
    never_refused e drains calls stands =
        let a = feeds calls stands in
        let p = gave_by xs ys given _ a.0 in
        drain_fits mach1 mach2 f1 f2 calls us xs ys ws zs p.0 given p.2 p.3 rest
        (subst (λ b. Stands mach1 f1 (fed us (length xs) b calls)) p.1 a.1) e drains

    pub fed_and_drained : (n : ℕ) → gave [] ≡ feed_refusal f us (length xs) → Drained mach1 mach2 f1 f2 ws zs (Ok n)
        → FedEmpty mach mach2 f f2 us xs (refilled ys given zs) (Ok (given + n))
    fed_and_drained n refusal drains calls stands =
        let a = feeds calls stands in
        let p = gave_by xs ys given _ a.0 in (
          refusal,
          emptied_by mach1 mach2 f1 f2 calls us xs ys ws zs p.0 given p.2 p.3 rest
              (subst (λ b. Stands mach1 f1 (fed us (length xs) b calls)) p.1 a.1) n drains,
        )
