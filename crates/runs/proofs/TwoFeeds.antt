-- A whole run of two feeds, each with a drain.
use Rattle.std.proofs.Common.{◌≡◌, ℕ, ◌+◌, ◌-◌, true, List, [], ◌++◌, length, drop, Ok, Err, Result, sym, refl, ap, ◌∙◌, arith}
use Rattle.std.proofs.lemmas.List.{length-drop, append_assoc, append-nil}
use Rattle.refusals.specs.declared.Refusal.{Refusal}
use Rattle.engines.specs.Machines.{Machine, resting}
use Rattle.engines.specs.Cycles.{emptied}
use Rattle.modes.specs.declared.way.Way.{Way}
use Rattle.modes.specs.declared.order.Order.{Order}
use Rattle.modes.specs.Table.{distance_of}
use Rattle.calls.specs.Calls.{Answer, gave, refused, Calls, new, started, fed, drained, order_of, way_of, taken, handed_out, count_before}
use Rattle.calls.specs.Due.{count_in, inside_in, Follows}
use Rattle.calls.proofs.OpenRun.{balanced}
use Rattle.runs.specs.declared.frame.Frame.{Frame}
use Rattle.runs.specs.Standing.{SameEngine}
use Rattle.runs.specs.Stands.{Stands, Tells}
use Rattle.runs.specs.Handing.{feed_refusal}
use Rattle.runs.specs.Whole.{Ending, unless_refused, refusal_behind, ending, cycles_in_two, in_two}
use Rattle.runs.specs.Emptying.{Emptied, FedEmpty, FedTwice}
use Rattle.runs.proofs.Numbers.{count_told_now}
use Rattle.runs.proofs.Rests.{refilled}
use Rattle.runs.proofs.FeedReplies.{refusal_told}
use Rattle.runs.proofs.Emptying.{results_out, engine_rests, drained_empty, cycles_of_feed, written_behind}

unless_ended : (a : Answer) (e : Refusal) (ends : Refusal → Ending) (on : Ending) → refused e ≡ a → ends e ≡ unless_refused a ends on
unless_ended a e ends on = ap (λ b. unless_refused b ends on)

unless_on : (a : Answer) (hs : List ℕ) (ends : Refusal → Ending) (on : Ending) → gave hs ≡ a → on ≡ unless_refused a ends on
unless_on a hs ends on = ap (λ b. unless_refused b ends on)

-- ---- the first run of a cartridge, with nothing inside

module _ (mach : Machine) (f : Frame) (calls : Calls true) (stands : Stands mach f calls) (quiet : inside_in mach.depth calls ≡ 0)
    (first_run : count_before calls ≡ 0) where
  -- what a further feed is refused
  refused_behind : (us xs : List ℕ) (room : ℕ) → room ≡ length xs - length (taken calls)
      → feed_refusal f us room ≡ refusal_behind (order_of calls) (taken calls) us xs
  refused_behind us xs room left =
      let count : count_in calls ≡ length (taken calls) = omega arith in
      cc (refusal_told mach f calls stands us room (gave []), quiet, count, left)

  -- all units are out
  out_is_taken : length (handed_out calls) ≡ length (taken calls)
  out_is_taken = omega (arith, balanced _ _ _ calls stands.follows)

  -- how it ends, if the results stand first in the output list
  ended : (before : Machine) (xs ys : List ℕ) (r : Result ℕ Refusal) → SameEngine before mach → ys ≡ handed_out calls ++ drop (length (handed_out calls)) xs
      → (record { answer = r; count = f.before + f.taken; output = ys } ≡ ending before (order_of calls) (way_of calls) (taken calls) xs r)
      × (mach ≡ emptied before)
  ended before xs ys r same output =
      let rests : mach ≡ emptied before = engine_rests mach f calls stands quiet ∙ (λ i. resting (same.0 i) (same.1 i) (same.2 i)) in
      let count : f.before + f.taken ≡ length (taken calls) = omega (arith, count_told_now mach f calls stands) in
      let whole = output ∙ ap (λ n. handed_out calls ++ drop n xs) out_is_taken
      ∙ ap (λ l. l ++ drop (length (taken calls)) xs) (results_out mach f calls stands quiet) in
      ((λ i. record { answer = r; count = count i; output = whole i }) ∙ ap (λ m. ending m (order_of calls) (way_of calls) (taken calls) xs r) rests, rests)

-- ---- two feeds

pub first_refused : (mach mach1 : Machine) (f f1 : Frame) (first second xs ys : List ℕ) (e : Refusal) → SameEngine mach mach1
    → FedEmpty mach mach1 f f1 first xs ys (Err e) → FedTwice mach mach1 f (f1.before + f1.taken) first second xs ys (Err e)
first_refused mach mach1 f f1 first second xs ys e same feeds order way stands =
    let start = started order way new in
    let one = feeds start stands in
    let p = ended mach1 f1 (fed first (length xs) (refused e) start) one.1.1 refl refl mach xs ys (Err e) same one.1.0 in
    (p.0 ∙ unless_ended _ e _ _ (one.0 ∙ refused_behind mach f start stands refl refl first xs (length xs) (omega arith)), p.1)

-- the calls of a run that was fed and drained once
abbrev once : Order → Way → (us : List ℕ) (room : ℕ) (hs ks : List ℕ) → Calls true
once order way us room hs ks = drained (room - length hs) (gave ks) (fed us room (gave hs) (started order way new))

once_quiet : (F G : ℕ → ℕ) (D : ℕ) (order : Order) (way : Way) (us : List ℕ) (room : ℕ) (hs ks : List ℕ) → Follows F G D (once order way us room hs ks)
    → inside_in D (once order way us room hs ks) ≡ 0
once_quiet F G D order way us room hs ks = drained_empty F G D (fed us room (gave hs) (started order way new)) (room - length hs) ks

module _ (mach mach1 mach2 : Machine) (f f1 f2 : Frame) (first second xs ys ws zs : List ℕ) (given : ℕ) (same : SameEngine mach mach2)
    (long : length ys ≡ length xs) (rest : ws ≡ drop given ys) (feeds : FedEmpty mach mach1 f f1 first xs ys (Ok given)) where
  -- the first feed is accepted, and the second meets this
  on_to_second : (order : Order) (way : Way) → Stands mach f (started order way new) → gave [] ≡ refusal_behind order [] first xs
  on_to_second order way stands =
      (feeds (started order way new) stands).0 ∙ refused_behind mach f (started order way new) stands refl refl first xs (length xs) (omega arith)

  behind_once : (order : Order) (way : Way) (one : Emptied mach1 f1 (started order way new) first xs ys given)
      → feed_refusal f1 second (length ws) ≡ refusal_behind order first second xs
  behind_once order way one =
      let calls = once order way first (length xs) one.hs one.ks in
      let quiet = once_quiet _ _ _ order way first (length xs) one.hs one.ks one.stands.follows in
      let count = one.count in
      refused_behind mach1 f1 calls one.stands quiet refl second xs (length ws)
      (ap length rest ∙ length-drop given ys ∙ omega (arith, out_is_taken mach1 f1 calls one.stands quiet refl))

  pub second_refused : (e : Refusal) → FedEmpty mach1 mach2 f1 f2 second ws zs (Err e)
      → FedTwice mach mach2 f (f2.before + f2.taken) first second xs (refilled ys given zs) (Err e)
  second_refused e more order way stands =
      let one = (feeds (started order way new) stands).1 in
      let calls = once order way first (length xs) one.hs one.ks in
      let two = more calls one.stands in
      let quiet = once_quiet _ _ _ order way first (length xs) one.hs one.ks two.1.1.follows.1 in
      let output = written_behind xs ys ws zs (one.hs ++ one.ks) [] given one.count one.output rest two.1.0
      ∙ ap (λ l. l ++ drop (length l) xs) (append-nil (one.hs ++ one.ks)) in
      let p = ended mach2 f2 (fed second (length ws) (refused e) calls) two.1.1 quiet refl mach xs _ (Err e) same output in
      (p.0 ∙ unless_ended _ e _ _ (two.0 ∙ behind_once order way one) ∙ unless_on _ [] _ _ (on_to_second order way stands), p.1)

  pub fed_twice : (n cycles : ℕ) → FedEmpty mach1 mach2 f1 f2 second ws zs (Ok n) → Tells mach2 f2 (λ told. told.cycles) cycles
      → FedTwice mach mach2 f (f2.before + f2.taken) first second xs (refilled ys given zs) (Ok cycles)
  fed_twice n cycles more tells order way stands =
      let start = started order way new in
      let one = (feeds start stands).1 in
      let calls = once order way first (length xs) one.hs one.ks in
      let t = more calls one.stands in
      let two = t.1 in
      let both = drained (length ws - length two.hs) (gave two.ks) (fed second (length ws) (gave two.hs) calls) in
      let D = mach2.depth in
      let δ = distance_of order.mode way in
      let follows = two.stands.follows in
      let deep = two.stands.at_work.sound.deep in
      let quiet = once_quiet _ _ D order way first (length xs) one.hs one.ks follows.1.1 in
      let output = written_behind xs ys ws zs (one.hs ++ one.ks) (two.hs ++ two.ks) given one.count one.output rest two.output
      ∙ ap (λ l. l ++ drop (length l) xs) (sym (append_assoc (one.hs ++ one.ks) two.hs two.ks)) in
      let p = ended mach2 f2 both two.stands (drained_empty _ _ D (fed second (length ws) (gave two.hs) calls) (length ws - length two.hs) two.ks follows)
      refl mach xs _ (Ok cycles) same output in
      let cost : cycles ≡ cycles_in_two mach2 order way first second =
      tells both two.stands
      ∙ cycles_of_feed _ _ D deep calls quiet (length ws) (length ws - length two.hs) two.hs second two.ks follows
      ∙ omega (arith, cycles_of_feed _ _ D deep start refl (length xs) (length xs - length one.hs) one.hs first one.ks follows.1.1) in (
        p.0
            ∙ ap (λ k. ending mach order way (first ++ second) xs (Ok k)) (cost ∙ ap (λ m. cycles_in_two m order way first second) p.1)
            ∙ unless_on _ [] _ _ (t.0 ∙ behind_once order way one)
            ∙ unless_on _ [] _ _ (on_to_second order way stands),
        p.1,
      )

-- closing hands on the engine and the count
pub closed_then : (mach mach2 mach3 : Machine) (f : Frame) (n count : ℕ) (first second xs ys : List ℕ) (r : Result ℕ Refusal) → mach3 ≡ mach2 → count ≡ n
    → FedTwice mach mach2 f n first second xs ys r → FedTwice mach mach3 f count first second xs ys r
closed_then mach mach2 mach3 f n count first second xs ys r engine same twice order way stands =
    let p = twice order way stands in
    (ap (λ k. record { answer = r; count = k; output = ys }) same ∙ p.0, engine ∙ p.1)

-- that the start empties the engine alters nothing of it
pub from_new : (mach mach1 mach2 : Machine) (f : Frame) (order : Order) (way : Way) (count : ℕ) (first second xs ys : List ℕ) (r : Result ℕ Refusal)
    → mach1 ≡ emptied mach → Stands mach1 f (started order way new) → FedTwice mach1 mach2 f count first second xs ys r
    → (record { answer = r; count = count; output = ys } ≡ in_two mach order way first second xs) × (mach2 ≡ emptied mach)
from_new mach mach1 mach2 f order way count first second xs ys r empty stands twice =
    let p = twice order way stands in
    (p.0 ∙ ap (λ m. in_two m order way first second xs) empty, p.1 ∙ ap emptied empty)
