-- A feed with a drain after it, on a run that stands for any calls.
use Rattle.std.specs.Prelude.{◌≡◌, ℕ, ◌-◌, true, List, ◌++◌, length, drop, Ok, Err, Result}
use Rattle.refusals.specs.declared.Refusal.{Refusal}
use Rattle.engines.specs.Machines.{Machine}
use Rattle.engines.specs.Cycles.{emptied}
use Rattle.modes.specs.declared.way.Way.{Way}
use Rattle.modes.specs.declared.order.Order.{Order}
use Rattle.calls.specs.Calls.{gave, refused, Calls, new, started, fed, drained}
use Rattle.runs.specs.declared.frame.Frame.{Frame}
use Rattle.runs.specs.Stands.{Stands}
use Rattle.runs.specs.Handing.{feed_refusal, refusal_in}
use Rattle.runs.specs.Whole.{in_two}

-- the run took the units us: the feed gave hs and the drain ks, n units in all; xs is the output list before, ys after
pub record Emptied (mach : Machine) (f : Frame) (calls : Calls true) (us xs ys : List ℕ) (n : ℕ) : Type 0 where
  pub hs : List ℕ
  pub ks : List ℕ
  pub count : n ≡ length (hs ++ ks)
  pub output : ys ≡ (hs ++ ks) ++ drop (length (hs ++ ks)) xs
  pub stands : Stands mach f (drained (length xs - length hs) (gave ks) (fed us (length xs) (gave hs) calls))

-- it did, or the feed was refused
abbrev pub EmptiedUnless : Machine → Frame → Calls true → (us xs ys : List ℕ) → Result ℕ Refusal → Type 0
EmptiedUnless mach f calls us xs ys (Ok n) = Emptied mach f calls us xs ys n
EmptiedUnless mach f calls us xs ys (Err e) = (ys ≡ xs) × Stands mach f (fed us (length xs) (refused e) calls)

-- whatever calls went before; the drain is never refused
abbrev pub FedEmpty : (mach mach' : Machine) (f f' : Frame) (us xs ys : List ℕ) → Result ℕ Refusal → Type 0
FedEmpty mach mach' f f' us xs ys r =
    (calls : Calls true) → Stands mach f calls → (refusal_in r ≡ feed_refusal f us (length xs)) × EmptiedUnless mach' f' calls us xs ys r

-- the same twice, from the start of a new cartridge's run on; count is what the cartridge tells then
abbrev pub FedTwice : (mach mach' : Machine) → Frame → (count : ℕ) (first second xs ys : List ℕ) → Result ℕ Refusal → Type 0
FedTwice mach mach' f count first second xs ys r =
    (order : Order) (way : Way) → Stands mach f (started order way new)
    → (record { answer = r; count = count; output = ys } ≡ in_two mach order way first second xs) × (mach' ≡ emptied mach)
