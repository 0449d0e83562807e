-- What a feed answers.
use Rattle.std.proofs.Common.{◌≡◌, ℕ, ◌+◌, ◌-◌, ◌<◌, ◌≤◌, true, cond, ltb, List, ◌++◌, map, length, drop, Some, None, Ok, Err, Option, sym, refl, ap, ◌∙◌, subst, arith}
use Rattle.std.specs.List.{range_with_len}
use Rattle.std.proofs.lemmas.List.FromFn.{length-map-range_with_len}
use Rattle.std.proofs.lemmas.List.{length-append}
use Rattle.std.proofs.lemmas.Bool.{cond-true, cond-false, le-ltb, lt-ltb}
use Rattle.refusals.specs.declared.Refusal.{Refusal}
use Rattle.refusals.specs.declared.Refusal.TheVariants.{OutputLength, UnitWidth, UnitLimit}
use Rattle.engines.specs.Machines.{Machine}
use Rattle.modes.specs.Table.{row}
use Rattle.modes.specs.Values.{listed}
use Rattle.calls.specs.Limits.{unit_limit}
use Rattle.calls.specs.Stretches.{passed, inside}
use Rattle.calls.specs.Calls.{Answer, gave, refused, Calls, fed, order_of, taken, stretch}
use Rattle.modes.specs.Widths.{first_wide}
use Rattle.calls.specs.Due.{distance_in, width_in, count_in, inside_in, results_in, refusal_to_feed, due_feed, cycles_passed, Follows}
use Rattle.calls.proofs.Stretching.{inside_most, passed_more}
use Rattle.runs.specs.declared.frame.Frame.{Frame}
use Rattle.runs.specs.Views.{view}
use Rattle.runs.specs.Standing.{SameEngine}
use Rattle.runs.specs.Stands.{units_earlier, cycles_earlier, out_in, Stands}
use Rattle.runs.specs.Handing.{holding, unit_in, Handing, Answered, Fed, Pumps}
use Rattle.runs.proofs.Onwards.{same_holding}
use Rattle.runs.proofs.Outputs.{units_are_results}
use Rattle.runs.proofs.Inside.{inside_is}
use Rattle.runs.proofs.Pumps.{stretch_within}
use Rattle.runs.proofs.Numbers.{inside_told, count_told_now, width_told}

-- which refusal, or none: n units are inside, w is the width, c the count
module _ (n w c : ℕ) (us : List ℕ) (room : ℕ) where
  abbrev pub Refuses : Refusal → Type 0
  Refuses e = (otherwise : Answer) → refusal_to_feed n w c us room otherwise ≡ refused e

  abbrev pub Accepts : Type 0
  Accepts = (otherwise : Answer) → refusal_to_feed n w c us room otherwise ≡ otherwise

  abbrev beyond_room : Option ℕ → Answer → Answer
  beyond_room wide otherwise = elim wide [ Some i ↦ refused (UnitWidth i) | None ↦ cond (ltb unit_limit (c + length us)) (refused (UnitLimit (unit_limit - c))) otherwise ]

  pub refuses_room : (k : ℕ) → k ≡ n + length us → room < k → Refuses (OutputLength k)
  refuses_room k e l otherwise = cond-true _ _ _ (lt-ltb room (n + length us) (omega arith)) ∙ ap (λ j. refused (OutputLength j)) (sym e)

  has_room : n + length us ≤ room → (otherwise : Answer) → refusal_to_feed n w c us room otherwise ≡ beyond_room (first_wide w 0 us) otherwise
  has_room l otherwise = cond-false _ _ _ (le-ltb room (n + length us) l)

  pub refuses_wide : n + length us ≤ room → (i : ℕ) → first_wide w 0 us ≡ Some i → Refuses (UnitWidth i)
  refuses_wide l i e otherwise = has_room l otherwise ∙ ap (λ wide. beyond_room wide otherwise) e

  pub refuses_many : n + length us ≤ room → first_wide w 0 us ≡ None → unit_limit < c + length us → Refuses (UnitLimit (unit_limit - c))
  refuses_many l e many otherwise =
      has_room l otherwise ∙ ap (λ wide. beyond_room wide otherwise) e ∙ cond-true _ _ _ (lt-ltb unit_limit (c + length us) many)

  pub accepts : n + length us ≤ room → first_wide w 0 us ≡ None → c + length us ≤ unit_limit → Accepts
  accepts l e few otherwise =
      has_room l otherwise ∙ ap (λ wide. beyond_room wide otherwise) e ∙ cond-false _ _ _ (le-ltb unit_limit (c + length us) few)

-- the numbers that a run tells are those of its calls
pub refusal_told : (mach : Machine) (f : Frame) (calls : Calls true) → Stands mach f calls → (us : List ℕ) (room : ℕ) (otherwise : Answer)
    → refusal_to_feed (inside_in mach.depth calls) (width_in calls) (count_in calls) us room otherwise
    ≡ refusal_to_feed (length f.pending.items) (row f.mode).width (f.before + f.taken) us room otherwise
refusal_told mach f calls stands us room otherwise =
    cc (inside_told mach f calls stands, width_told mach f calls stands, count_told_now mach f calls stands)

-- a refusal alters nothing
pub feed_refused : (mach : Machine) (f : Frame) (us xs : List ℕ) (e : Refusal)
    → Refuses (length f.pending.items) (row f.mode).width (f.before + f.taken) us (length xs) e → Fed mach mach f f us xs xs (Err e)
feed_refused mach f us xs e refuses = λ calls stands.
    let w = stands.at_work in
    let room = length xs in
    let due : due_feed mach.forward mach.inverse mach.depth calls us room ≡ refused e =
    refusal_told mach f calls stands us room _ ∙ refuses _ in (
      rw due (refl, refl),
      rw due
          (record {
            follows = (sym due, stands.follows);
            at_work = record { sound = w.sound; mode = w.mode; way = w.way; before = w.before; standing = w.standing };
          }),
    )

-- the units were taken
module _ (mach : Machine) (places : List (Option ℕ)) (f f' : Frame) (calls : Calls true) (stands : Stands mach f calls) (us xs ys : List ℕ) (n : ℕ)
    (hands : Handing (holding mach places) f' calls (taken calls ++ us) (stretch calls + length us) n
    (passed mach.depth (distance_in calls) (stretch calls + length us)) xs ys) where
  abbrev D : ℕ
  D = mach.depth

  abbrev δ : Option ℕ
  δ = distance_in calls

  abbrev s : ℕ
  s = stretch calls + length us

  -- the units written, and those due
  abbrev wrote : List ℕ
  wrote = map (unit_in mach calls (taken calls ++ us)) (range_with_len (units_earlier calls + out_in D calls) n)

  abbrev results_due : List ℕ
  results_due = results_in mach.forward mach.inverse calls (taken calls ++ us) (length (taken calls) - inside_in D calls)
      (length (taken calls) + length us - inside D δ s)

  inside_now : inside D δ s ≡ s - (out_in D calls + n)
  inside_now = inside_is (holding mach places) _ _ _ (taken calls ++ us) _ s _ _ _ (view f') hands.at_work.standing refl

  wrote_due : wrote ≡ results_due
  wrote_due =
      let whole = stretch_within mach f calls stands in
      let least = inside_most D δ (stretch calls) in
      let now = inside_now in
      let some = hands.at_work.standing.some in
      let A : units_earlier calls + out_in D calls ≡ length (taken calls) - inside_in D calls = omega arith in
      let B : units_earlier calls + out_in D calls + n ≡ length (taken calls) + length us - inside D δ s = omega arith in
      units_are_results mach.forward mach.inverse _ _ _ (taken calls ++ us) _ n _ hands.at_work.sound.begins.count B
      ∙ ap (λ a. results_in mach.forward mach.inverse calls (taken calls ++ us) a (length (taken calls) + length us - inside D δ s)) A

  answered_wrote : Answered xs ys (Ok n) (gave wrote)
  answered_wrote =
      let len = length-map-range_with_len (unit_in mach calls (taken calls ++ us)) (units_earlier calls + out_in D calls) n in
      (sym len, hands.output ∙ ap (λ k. wrote ++ drop k xs) (sym len))

  stands_fed : (room : ℕ) (hs : List ℕ) → Follows mach.forward mach.inverse D (fed us room (gave hs) calls) → Stands (holding mach places) f' (fed us room (gave hs) calls)
  stands_fed room hs follows =
      let w = hands.at_work in
      let whole = stretch_within mach f calls stands in
      let len = length-append (taken calls) us in
      let now = inside_now in
      let some = w.standing.some in
      let m = (order_of calls).mode in
      let ivs = listed (order_of calls).values in
      let vs = taken calls ++ us in
      let t = passed D δ s in
      let eu : units_earlier calls ≡ length (taken calls ++ us) - s = omega arith in
      let eh : out_in D calls + n ≡ s - inside D δ s = omega arith in
      let ec : cycles_earlier D calls ≡ cycles_passed D calls + (t - passed D δ (stretch calls)) - t =
      omega (arith, passed_more D δ (stretch calls) (length us)) in
      record {
        follows = follows;
        at_work = record {
          sound = w.sound;
          mode = w.mode;
          way = w.way;
          before = w.before;
          standing =
              rw (sym eu, sym eh, sym ec) w.standing;
        };
      }

  -- so that the feed answers what is due
  taken_all : (room : ℕ) → due_feed mach.forward mach.inverse D calls us room ≡ gave results_due
      → Answered xs ys (Ok n) (due_feed mach.forward mach.inverse D calls us room)
      × Stands (holding mach places) f' (fed us room (due_feed mach.forward mach.inverse D calls us room) calls)
  taken_all room due =
      (subst (Answered xs ys (Ok n)) (ap gave wrote_due ∙ sym due) answered_wrote, rw due (stands_fed room results_due (sym due, stands.follows)))

pub feed_taken : (mach mach' : Machine) (f f' : Frame) (us xs ys : List ℕ) (n : ℕ) → SameEngine mach mach'
    → Accepts (length f.pending.items) (row f.mode).width (f.before + f.taken) us (length xs)
    → Pumps mach mach' f f' us (length us) n xs ys → Fed mach mach' f f' us xs ys (Ok n)
feed_taken mach mach' f f' us xs ys n same accepts pumps = λ calls stands.
    let a = taken_all mach mach'.row f f' calls stands us xs ys n (pumps calls stands) (length xs)
    (refusal_told mach f calls stands us (length xs) _ ∙ accepts _) in
    (a.0, rw (same_holding mach mach' same) a.1)
