-- A feed, unit by unit.
use Rattle.std.proofs.Common.{◌≡◌, ℕ, ◌+◌, ◌<◌, ◌≤◌, true, List, ◌++◌, length, get_or, Some, sym, refl, ap, ◌∙◌, subst, arith}
use Rattle.std.proofs.lemmas.List.{get_or-append-add, length-append}
use Rattle.engines.specs.Machines.{Machine}
use Rattle.modes.specs.Schedule.{entry}
use Rattle.calls.specs.Stretches.{passed}
use Rattle.calls.specs.Calls.{Calls, order_of, way_of, taken, stretch}
use Rattle.calls.specs.Due.{distance_in}
use Rattle.calls.proofs.OpenRun.{progress}
use Rattle.runs.specs.declared.frame.Frame.{Frame}
use Rattle.runs.specs.Views.{view}
use Rattle.runs.specs.Standing.{SameEngine, Enters}
use Rattle.runs.specs.Stands.{units_earlier, out_in, AtWork, Stands}
use Rattle.runs.specs.Handing.{holding, Handing, Passes, Waits, Pumps}
use Rattle.runs.proofs.Onwards.{same_holding}
use Rattle.runs.proofs.Inside.{passed_next}
use Rattle.runs.proofs.MoreUnits.{standing_more}
use Rattle.runs.proofs.Passes.{passes_from}

-- a stretch's units are among those that the run took
pub stretch_within : (mach : Machine) (f : Frame) (calls : Calls true) → Stands mach f calls → stretch calls ≤ length (taken calls)
stretch_within mach f calls stands = (progress mach.forward mach.inverse mach.depth calls stands.follows).whole

-- a run that stands for calls hands out nothing yet
pub stands_hands : (mach : Machine) (f : Frame) (calls : Calls true) (us xs : List ℕ) → Stands mach f calls
    → AtWork mach f calls us (stretch calls) (out_in mach.depth calls) (passed mach.depth (distance_in calls) (stretch calls))
    → Handing mach f calls us (stretch calls) 0 (passed mach.depth (distance_in calls) (stretch calls)) xs xs
stands_hands mach f calls us xs stands work =
    let e : out_in mach.depth calls ≡ out_in mach.depth calls + 0 = omega arith in
    record {
      at_work = subst (λ h. AtWork mach f calls us (stretch calls) h (passed mach.depth (distance_in calls) (stretch calls))) e work;
      output = refl;
    }

pub pumps_none : (mach : Machine) (f : Frame) (us xs : List ℕ) → Pumps mach mach f f us 0 0 xs xs
pumps_none mach f us xs = λ calls stands.
    let w = stands.at_work in
    let e : stretch calls ≡ stretch calls + 0 = omega arith in
    subst (λ s. Handing mach f calls (taken calls ++ us) s 0 (passed mach.depth (distance_in calls) s) xs xs) e
    (stands_hands mach f calls (taken calls ++ us) xs stands
    (record {
      sound = w.sound;
      mode = w.mode;
      way = w.way;
      before = w.before;
      standing = standing_more mach _ _ _ (taken calls) us _ _ _ _ _ (view f) w.standing;
    }))

-- one more unit waits for its cycle and enters
pub pumps_more : (mach mach1 mach2 mach3 : Machine) (f f1 f2 f3 : Frame) (us : List ℕ) (k u a b c : ℕ) (xs ys zs ws : List ℕ)
    → SameEngine mach mach1 → SameEngine mach mach2 → SameEngine mach mach3 → k < length us → u ≡ get_or us k 0
    → Pumps mach mach1 f f1 us k a xs ys → Waits mach1 mach2 f1 f2 a b ys zs → Passes mach2 mach3 f2 f3 (Some u) b c zs ws
    → Pumps mach mach3 f f3 us (k + 1) c xs ws
pumps_more mach mach1 mach2 mach3 f f1 f2 f3 us k u a b c xs ys zs ws s1 s2 s3 l eu pumps waits pass = λ calls stands.
    let D = mach.depth in
    let δ = distance_in calls in
    let s = stretch calls + k in
    let whole = stretch_within mach f calls stands in
    let len = length-append (taken calls) us in
    let place : units_earlier calls + s ≡ length (taken calls) + k = omega arith in
    let w = subst (λ m. Waits m mach2 f1 f2 a b ys zs) (same_holding mach mach1 s1) waits calls (taken calls ++ us) xs s (pumps calls stands) in
    let enters : Enters (holding mach mach2.row) (order_of calls).mode (way_of calls) (taken calls ++ us) (units_earlier calls) s (out_in D calls + b) (entry D δ s) u =
    record {
      next = omega arith;
      unit = eu ∙ sym (get_or-append-add (taken calls) us k 0) ∙ ap (λ i. get_or (taken calls ++ us) i 0) (sym place);
      cycle = refl;
      partner = w.1;
    } in
    let p = passes_from mach mach2 mach3 f2 f3 (Some u) b c zs ws s2 s3 pass calls (taken calls ++ us) xs s (entry D δ s) w.0 enters in
    let e : s + 1 ≡ stretch calls + (k + 1) = omega arith in
    subst (λ n. Handing (holding mach mach3.row) f3 calls (taken calls ++ us) n c (passed D δ n) xs ws) e
    (subst (λ t. Handing (holding mach mach3.row) f3 calls (taken calls ++ us) (s + 1) c t xs ws) (sym (passed_next D δ s)) p)
