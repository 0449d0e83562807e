-- Handing out: how a feed and a drain answer, and how a run stands on the way through them.
use Rattle.std.specs.Prelude.{◌≡◌, ℕ, ◌+◌, ◌-◌, ◌<◌, ◌≤◌, true, List, [], ◌++◌, map, length, take, drop, Some, None, Ok, Err, Option, Result, slice_set}
use Rattle.std.specs.List.{range_with_len}
use Rattle.refusals.specs.declared.Refusal.{Refusal}
use Rattle.engines.specs.Machines.{Machine}
use Rattle.modes.specs.Schedule.{entry}
use Rattle.modes.specs.Table.{row}
use Rattle.modes.specs.Values.{listed}
use Rattle.calls.specs.Stretches.{passed}
use Rattle.calls.specs.Calls.{Answer, gave, refused, Calls, fed, drained, order_of, way_of, taken, stretch}
use Rattle.calls.specs.Due.{distance_in, refusal_to_feed, refusal_to_drain, due_feed, due_drain}
use Rattle.runs.specs.declared.frame.Frame.{Frame}
use Rattle.runs.specs.Views.{Kept}
use Rattle.runs.specs.Steps.{unit_at}
use Rattle.runs.specs.Standing.{SameEngine, Enters}
use Rattle.runs.specs.Stands.{units_earlier, out_in, AtWork, Stands}

-- ---- answers

-- how an answer is told: xs is the output list before, ys after
abbrev pub Answered : (xs ys : List ℕ) → Result ℕ Refusal → Answer → Type 0
Answered xs ys (Ok n) (gave hs) = (n ≡ length hs) × (ys ≡ hs ++ drop (length hs) xs)
Answered xs ys (Ok n) (refused e) = ⊥
Answered xs ys (Err e) (gave hs) = ⊥
Answered xs ys (Err e) (refused e') = (e ≡ e') × (ys ≡ xs)

-- which refusal, or none
abbrev pub refusal_in : Result ℕ Refusal → Answer
refusal_in (Ok n) = gave []
refusal_in (Err e) = refused e

-- the refusal, or none, over what the run itself tells
abbrev pub feed_refusal : Frame → List ℕ → ℕ → Answer
feed_refusal f us room = refusal_to_feed (length f.pending.items) (row f.mode).width (f.before + f.taken) us room (gave [])

abbrev pub drain_refusal : Frame → ℕ → Answer
drain_refusal f room = refusal_to_drain (length f.pending.items) room (gave [])

-- a feed answers what is due, whatever calls went before, and the run then stands for them and this one
abbrev pub Fed : (mach mach' : Machine) (f f' : Frame) (us xs ys : List ℕ) → Result ℕ Refusal → Type 0
Fed mach mach' f f' us xs ys r =
    (calls : Calls true) → Stands mach f calls
    → Answered xs ys r (due_feed mach.forward mach.inverse mach.depth calls us (length xs))
    × Stands mach' f' (fed us (length xs) (due_feed mach.forward mach.inverse mach.depth calls us (length xs)) calls)

-- so does a drain
abbrev pub Drained : (mach mach' : Machine) (f f' : Frame) (xs ys : List ℕ) → Result ℕ Refusal → Type 0
Drained mach mach' f f' xs ys r =
    (calls : Calls true) → Stands mach f calls
    → Answered xs ys r (due_drain mach.forward mach.inverse mach.depth calls (length xs))
    × Stands mach' f' (drained (length xs) (due_drain mach.forward mach.inverse mach.depth calls (length xs)) calls)

-- ---- on the way

-- the output list after one cycle
abbrev pub written : List ℕ → ℕ → Option ℕ → List ℕ
written xs n None = xs
written xs n (Some x) = slice_set xs n x

-- a machine with another row
abbrev pub holding : Machine → List (Option ℕ) → Machine
holding mach places = record { forward = mach.forward; inverse = mach.inverse; depth = mach.depth; row = places }

-- the unit that is handed out for place i
abbrev pub unit_in : Machine → Calls true → List ℕ → ℕ → ℕ
unit_in mach calls us i = unit_at mach.forward mach.inverse (order_of calls).mode (way_of calls) (listed (order_of calls).values) us i

-- given units are handed out since the call began, each behind the one before; the rest of the output list is untouched
pub record Handing (mach : Machine) (f : Frame) (calls : Calls true) (us : List ℕ) (s given t : ℕ) (xs ys : List ℕ) : Type 0 where
  pub at_work : AtWork mach f calls us s (out_in mach.depth calls + given) t
  pub output : ys ≡ map (unit_in mach calls us) (range_with_len (units_earlier calls + out_in mach.depth calls) given) ++ drop given xs

-- one cycle does so, with a unit that may enter and with none
abbrev pub Passes : (mach mach' : Machine) (f f' : Frame) → Option ℕ → (given given' : ℕ) (ys ys' : List ℕ) → Type 0
Passes mach mach' f f' None given given' ys ys' =
    (calls : Calls true) (us xs : List ℕ) (s t : ℕ) → Handing mach f calls us s given t xs ys → Handing mach' f' calls us s given' (t + 1) xs ys'
Passes mach mach' f f' (Some u) given given' ys ys' =
    (calls : Calls true) (us xs : List ℕ) (s t : ℕ) → Handing mach f calls us s given t xs ys
    → Enters mach (order_of calls).mode (way_of calls) us (units_earlier calls) s (out_in mach.depth calls + given) t u
    → Handing mach' f' calls us (s + 1) given' (t + 1) xs ys'

-- so do n cycles with none
abbrev pub Idles : (mach mach' : Machine) (f f' : Frame) (n given given' : ℕ) (ys ys' : List ℕ) → Type 0
Idles mach mach' f f' n given given' ys ys' =
    (calls : Calls true) (us xs : List ℕ) (s t : ℕ) → Handing mach f calls us s given t xs ys
    → Handing (holding mach mach'.row) f' calls us s given' (t + n) xs ys'

-- a wait, from the cycle after the last unit's to the cycle of the next unit, whose partner is out then
abbrev pub Waits : (mach mach' : Machine) (f f' : Frame) (given given' : ℕ) (ys ys' : List ℕ) → Type 0
Waits mach mach' f f' given given' ys ys' =
    (calls : Calls true) (us xs : List ℕ) (s : ℕ) → Handing mach f calls us s given (passed mach.depth (distance_in calls) s) xs ys
    → Handing (holding mach mach'.row) f' calls us s given' (entry mach.depth (distance_in calls) s) xs ys'
    × ((δ : ℕ) → distance_in calls ≡ Some δ → s - (out_in mach.depth calls + given') < δ)

-- one of these, of a call that is given what is left of the output list behind the units that stand in it, and writes n more there
abbrev pub Behind : ((given given' : ℕ) (ys ys' : List ℕ) → Type 0) → (n : ℕ) (xs xs' : List ℕ) → Type 0
Behind R n xs xs' = (ys : List ℕ) (given : ℕ) → given ≤ length ys → drop given ys ≡ xs → R given (given + n) ys (take given ys ++ xs')

-- all units of a feed, each in its cycle
abbrev pub Pumps : (mach mach' : Machine) (f f' : Frame) (us : List ℕ) (n given : ℕ) (xs ys : List ℕ) → Type 0
Pumps mach mach' f f' us n given xs ys =
    (calls : Calls true) → Stands mach f calls
    → Handing (holding mach mach'.row) f' calls (taken calls ++ us) (stretch calls + n) given
    (passed mach.depth (distance_in calls) (stretch calls + n)) xs ys

-- the same engine, mode, way and first count
abbrev pub Same : (mach mach' : Machine) (f f' : Frame) → Type 0
Same mach mach' f f' = SameEngine mach mach' × Kept f f'

-- what needs no history: a run whose engine, mode, way and first count are the same, with more units taken, and no more in memory or handed out
-- than were there or came
pub record Onward (mach mach' : Machine) (f f' : Frame) (given given' more : ℕ) : Type 0 where
  pub engine : SameEngine mach mach'
  pub kept : Kept f f'
  pub room : given' + length f'.pending.items ≤ given + length f.pending.items + more
  pub count : f'.taken ≡ f.taken + more
