-- What a drain answers.
use Rattle.std.proofs.Common.{◌≡◌, ℕ, zero, suc, ◌+◌, ◌-◌, ◌%◌, ◌^◌, ◌<◌, ◌≤◌, true, List, [], ◌∷◌, ◌++◌, map, length, drop, None, Ok, Err, Option, sym, refl, ap, ◌∙◌, subst, arith}
use Rattle.std.specs.List.{range_with_len}
use Rattle.std.proofs.lemmas.List.FromFn.{length-map-range_with_len}
use Rattle.std.proofs.lemmas.List.{length-drop, nil_from_length}
use Rattle.std.proofs.lemmas.Bool.{cond-true, cond-false, le-ltb, lt-ltb}
use Rattle.refusals.specs.declared.Refusal.TheVariants.{OutputLength}
use Rattle.engines.specs.Machines.{Machine}
use Rattle.modes.specs.declared.mode.Mode.{Mode}
use Rattle.modes.specs.declared.way.Way.{Way}
use Rattle.modes.specs.Table.{row, distance_of}
use Rattle.modes.specs.Values.{listed}
use Rattle.modes.proofs.Receiving.{length_results}
use Rattle.calls.specs.Stretches.{passed}
use Rattle.calls.specs.Calls.{Answer, gave, refused, Calls, drained, order_of, way_of, taken, stretch}
use Rattle.calls.specs.Due.{distance_in, inside_in, results_in, refusal_to_drain, due_drain, cycles_passed, Follows}
use Rattle.calls.proofs.Stretching.{inside_most}
use Rattle.runs.specs.declared.frame.Frame.{Frame}
use Rattle.runs.specs.Views.{view}
use Rattle.runs.specs.Steps.{chained, shift, mask_at, View}
use Rattle.runs.specs.Standing.{Registered, chain_end, SameEngine, Standing}
use Rattle.runs.specs.Stands.{units_earlier, cycles_earlier, out_in, Stands}
use Rattle.runs.specs.Handing.{holding, unit_in, Handing, Answered, Drained, Idles}
use Rattle.runs.proofs.Slots.{slot_none}
use Rattle.runs.proofs.Onwards.{same_holding}
use Rattle.runs.proofs.Outputs.{units_are_results}
use Rattle.runs.proofs.Inside.{all_out}
use Rattle.runs.proofs.Pumps.{stretch_within, stands_hands}
use Rattle.runs.proofs.Numbers.{inside_told, stretch_passed}

-- which refusal, or none, where n units are inside

pub drain_refuses : (n room k : ℕ) → k ≡ n → room < k → (otherwise : Answer) → refusal_to_drain n room otherwise ≡ refused (OutputLength k)
drain_refuses n room k e l otherwise = cond-true _ _ _ (lt-ltb room n (omega arith)) ∙ ap (λ j. refused (OutputLength j)) (sym e)

pub drain_accepts : (n room : ℕ) → n ≤ room → (otherwise : Answer) → refusal_to_drain n room otherwise ≡ otherwise
drain_accepts n room l otherwise = cond-false _ _ _ (le-ltb room n l)

refusal_told : (mach : Machine) (f : Frame) (calls : Calls true) → Stands mach f calls → (room : ℕ) (otherwise : Answer)
    → refusal_to_drain (inside_in mach.depth calls) room otherwise ≡ refusal_to_drain (length f.pending.items) room otherwise
refusal_told mach f calls stands room otherwise = ap (λ n. refusal_to_drain n room otherwise) (sym (inside_told mach f calls stands))

-- a refusal alters nothing
pub drain_refused : (mach : Machine) (f : Frame) (xs : List ℕ) (k : ℕ) → k ≡ length f.pending.items → length xs < k
    → Drained mach mach f f xs xs (Err (OutputLength k))
drain_refused mach f xs k is small = λ calls stands.
    let w = stands.at_work in
    let room = length xs in
    let e = OutputLength k in
    let due : due_drain mach.forward mach.inverse mach.depth calls room ≡ refused e =
    refusal_told mach f calls stands room _ ∙ drain_refuses (length f.pending.items) room k is small _ in (
      rw due (refl, refl),
      rw due
          (record {
            follows = (sym due, stands.follows);
            at_work = record { sound = w.sound; mode = w.mode; way = w.way; before = w.before; standing = w.standing };
          }),
    )

-- the units due
abbrev results_due : Machine → Calls true → List ℕ
results_due mach calls =
    results_in mach.forward mach.inverse calls (taken calls) (length (taken calls) - inside_in mach.depth calls) (length (taken calls))

due_results : (mach : Machine) (f : Frame) (calls : Calls true) → Stands mach f calls → (room : ℕ) → length f.pending.items ≤ room
    → due_drain mach.forward mach.inverse mach.depth calls room ≡ gave (results_due mach calls)
due_results mach f calls stands room large =
    refusal_told mach f calls stands room _ ∙ drain_accepts (length f.pending.items) room large _

-- nor does a drain that finds nothing
pub drain_none : (mach : Machine) (f : Frame) (xs : List ℕ) → length f.pending.items ≡ 0 → Drained mach mach f f xs xs (Ok 0)
drain_none mach f xs nothing = λ calls stands.
    let w = stands.at_work in
    let room = length xs in
    let inside = inside_told mach f calls stands in
    let none : results_due mach calls ≡ [] =
    nil_from_length (results_due mach calls)
    (length-drop (length (taken calls) - inside_in mach.depth calls) _
    ∙ omega (arith, length_results mach.forward mach.inverse (order_of calls).mode (way_of calls) (listed (order_of calls).values) (taken calls) (length (taken calls)))) in
    let due : due_drain mach.forward mach.inverse mach.depth calls room ≡ gave [] = due_results mach f calls stands room (omega arith) ∙ ap gave none in (
      rw due (refl, refl),
      rw due
          (record {
            follows = (sym due, stands.follows);
            at_work = record { sound = w.sound; mode = w.mode; way = w.way; before = w.before; standing = w.standing };
          }),
    )

-- once all are out, a new stretch begins

slots_empty : (f g : ℕ → Option ℕ) (a b n : ℕ) → ((k : ℕ) → a ≤ k → f k ≡ None) → ((k : ℕ) → g k ≡ None) → map f (range_with_len a n) ≡ map g (range_with_len b n)
slots_empty f g a b zero hf hg = refl
slots_empty f g a b (suc n) hf hg =
    let p = hf a (omega arith) ∙ sym (hg b) in
    let q = slots_empty f g (a + 1) (b + 1) n (λ k l. hf k (omega arith)) hg in
    cc (p, q)

begins_again : (mach : Machine) (m : Mode) (way : Way) (ivs us : List ℕ) (base s t past : ℕ) (v : View)
    → Standing mach m way ivs us base s s t past v → Standing mach m way ivs us (base + s) 0 0 0 (past + t) v
begins_again mach m way ivs us base s t past v st =
    let D = mach.depth in
    let δ = distance_of m way in
    let F = mach.forward in
    let G = mach.inverse in
    let e : base + s ≡ base + s + 0 = omega arith in
    let z : s - s ≡ 0 = omega arith in
    record {
      taken = st.taken ∙ e;
      within = omega (arith, st.within);
      some = omega arith;
      gone = λ j l. absurd (omega arith);
      here = λ l. absurd (omega arith);
      due = λ j l. absurd (omega arith);
      line = st.line ∙ slots_empty _ _ t 0 (D - 1) (λ k l. slot_none D δ _ s k (λ j q e. omega (arith, st.gone j q))) (λ k. refl);
      full = st.full ∙ omega arith;
      masks = st.masks ∙ ap (λ k. map (mask_at F G m way ivs us) (range_with_len (base + s) k)) z
          ∙ ap (λ k. map (mask_at F G m way ivs us) (range_with_len k 0)) e;
      links = st.links ∙ ap (λ k. drop k (ivs ++ chained F G m way ivs us k)) (ap (λ k. chain_end δ k k) e);
      registered = subst (λ k. Registered (row m).family (shift F G m way ivs us) k v.register) e st.registered;
      clocked = st.clocked ∙ ap (λ k. k % 2 ^ 64) (omega arith);
    }

-- all that was inside is out
module _ (mach : Machine) (places : List (Option ℕ)) (f f' : Frame) (calls : Calls true) (stands : Stands mach f calls) (xs ys : List ℕ) (n : ℕ)
    (hands : Handing (holding mach places) f' calls (taken calls) (stretch calls) n
    (passed mach.depth (distance_in calls) (stretch calls) + (mach.depth - 1)) xs ys) where
  abbrev D : ℕ
  D = mach.depth

  abbrev wrote : List ℕ
  wrote = map (unit_in mach calls (taken calls)) (range_with_len (units_earlier calls + out_in D calls) n)

  everything : out_in D calls + n ≡ stretch calls
  everything =
      let w = hands.at_work in
      all_out (holding mach places) _ _ _ (taken calls) _ (stretch calls) _ _ _ (view f') w.standing w.sound.deep (omega arith)

  wrote_due : wrote ≡ results_due mach calls
  wrote_due =
      let whole = stretch_within mach f calls stands in
      let least = inside_most D (distance_in calls) (stretch calls) in
      let all = everything in
      let A : units_earlier calls + out_in D calls ≡ length (taken calls) - inside_in D calls = omega arith in
      let B : units_earlier calls + out_in D calls + n ≡ length (taken calls) = omega arith in
      units_are_results mach.forward mach.inverse _ _ _ (taken calls) _ n _ hands.at_work.sound.begins.count B
      ∙ ap (λ a. results_in mach.forward mach.inverse calls (taken calls) a (length (taken calls))) A

  length_wrote : length wrote ≡ n
  length_wrote = length-map-range_with_len (unit_in mach calls (taken calls)) (units_earlier calls + out_in D calls) n

  answered_wrote : Answered xs ys (Ok n) (gave wrote)
  answered_wrote = (sym length_wrote, hands.output ∙ ap (λ k. wrote ++ drop k xs) (sym length_wrote))

  stands_drained : (room : ℕ) (hs : List ℕ) → 0 < length hs → Follows mach.forward mach.inverse D (drained room (gave hs) calls)
      → Stands (holding mach places) f' (drained room (gave hs) calls)
  stands_drained room [] some follows = absurd (omega arith)
  stands_drained room (h ∷ hs) some follows =
      let w = hands.at_work in
      let m = (order_of calls).mode in
      let ivs = listed (order_of calls).values in
      let s = stretch calls in
      let t = passed D (distance_in calls) s in
      let whole = stretch_within mach f calls stands in
      let eu : units_earlier calls + s ≡ length (taken calls) - 0 = omega arith in
      let ec : cycles_earlier D calls + (t + (D - 1)) ≡ cycles_passed D calls + (D - 1) - 0 = omega (arith, stretch_passed D calls) in
      let st = subst (λ k. Standing (holding mach places) m (way_of calls) ivs (taken calls) (units_earlier calls) s k (t + (D - 1)) (cycles_earlier D calls) (view f'))
      everything w.standing in
      record {
        follows = follows;
        at_work = record {
          sound = w.sound;
          mode = w.mode;
          way = w.way;
          before = w.before;
          standing =
              rw (sym eu, sym ec)
              (begins_again (holding mach places) m (way_of calls) ivs (taken calls) (units_earlier calls) s (t + (D - 1)) (cycles_earlier D calls) (view f') st);
        };
      }

  -- so that the drain answers what is due
  drained_all : (room : ℕ) → 0 < length f.pending.items → due_drain mach.forward mach.inverse D calls room ≡ gave (results_due mach calls)
      → Answered xs ys (Ok n) (due_drain mach.forward mach.inverse D calls room)
      × Stands (holding mach places) f' (drained room (due_drain mach.forward mach.inverse D calls room) calls)
  drained_all room some due =
      let inside = inside_told mach f calls stands in
      let least = inside_most D (distance_in calls) (stretch calls) in
      let found : 0 < length (results_due mach calls) = omega (arith, ap length wrote_due, length_wrote, everything) in
      (subst (Answered xs ys (Ok n)) (ap gave wrote_due ∙ sym due) answered_wrote, rw due (stands_drained room (results_due mach calls) found (sym due, stands.follows)))

pub drain_some : (mach mach' : Machine) (f f' : Frame) (xs ys : List ℕ) (n : ℕ) → SameEngine mach mach' → 0 < length f.pending.items
    → length f.pending.items ≤ length xs → Idles mach mach' f f' (mach.depth - 1) 0 n xs ys → Drained mach mach' f f' xs ys (Ok n)
drain_some mach mach' f f' xs ys n same some large idles = λ calls stands.
    let hands = idles calls (taken calls) xs (stretch calls) _ (stands_hands mach f calls (taken calls) xs stands stands.at_work) in
    let a = drained_all mach mach'.row f f' calls stands xs ys n hands (length xs) some (due_results mach f calls stands (length xs) large) in
    (a.0, rw (same_holding mach mach' same) a.1)
