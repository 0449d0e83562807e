-- A run or a cartridge that stands for a list of calls.
use Rattle.std.specs.Prelude.{◌≡◌, ℕ, ◌+◌, ◌-◌, true, false, List, [], length}
use Rattle.engines.specs.Machines.{Machine}
use Rattle.modes.specs.declared.way.Way.{Way}
use Rattle.modes.specs.declared.order.Order.{Order}
use Rattle.modes.specs.Values.{listed}
use Rattle.calls.specs.Stretches.{passed}
use Rattle.calls.specs.Calls.{Told, Calls, started, closed, order_of, way_of, taken, stretch, count_told, count_before}
use Rattle.calls.specs.Due.{distance_in, inside_in, cycles_passed, due_told, Follows}
use Rattle.calls.specs.Theorem.{Exact}
use Rattle.runs.specs.declared.frame.Frame.{Frame}
use Rattle.runs.specs.declared.run.Run.{Run}
use Rattle.runs.specs.Views.{view}
use Rattle.runs.specs.Standing.{blocks, Sound, Standing}

-- the units and the cycles of the stretches that have ended, and how many units of the one that has not are out
abbrev pub units_earlier : Calls true → ℕ
units_earlier calls = length (taken calls) - stretch calls

abbrev pub cycles_earlier : ℕ → Calls true → ℕ
cycles_earlier D calls = cycles_passed D calls - passed D (distance_in calls) (stretch calls)

abbrev pub out_in : ℕ → Calls true → ℕ
out_in D calls = stretch calls - inside_in D calls

-- a run at work after some calls: its units are us, s of them in this stretch, of which h are out, in t cycles of the stretch
pub record AtWork (mach : Machine) (f : Frame) (calls : Calls true) (us : List ℕ) (s h t : ℕ) : Type 0 where
  pub sound : Sound mach (order_of calls).mode (listed (order_of calls).values)
  pub mode : f.mode ≡ (order_of calls).mode
  pub way : f.way ≡ way_of calls
  pub before : f.before ≡ count_before calls
  pub standing : Standing mach (order_of calls).mode (way_of calls) (listed (order_of calls).values) us
      (units_earlier calls) s h t (cycles_earlier mach.depth calls) (view f)

-- that a run stands for calls says of them that every answer was due; the rest is how its memory and its engine's row stand
pub record Stands (mach : Machine) (f : Frame) (calls : Calls true) : Type 0 where
  pub follows : Follows mach.forward mach.inverse mach.depth calls
  pub at_work : AtWork mach f calls (taken calls) (stretch calls) (out_in mach.depth calls)
      (passed mach.depth (distance_in calls) (stretch calls))

-- a cartridge stands for calls whose answers were due and whose last count it tells; its engine's row may hold anything
pub record Rests (mach : Machine) (count : ℕ) (calls : Calls false) : Type 0 where
  pub follows : Follows mach.forward mach.inverse mach.depth calls
  pub tells : count ≡ count_told calls

-- a run that took nothing yet, in no cycles
pub record Fresh (f : Frame) (order : Order) (heads : Way) (count : ℕ) : Type 0 where
  pub mode : f.mode ≡ order.mode
  pub way : f.way ≡ heads
  pub before : f.before ≡ count
  pub taken : f.taken ≡ 0
  pub inside : f.pending.items ≡ []
  pub cycles : f.cycles ≡ 0

-- a started run stands for the calls on its cartridge, and this start
abbrev pub Started : (mach mach' : Machine) (count : ℕ) → Order → Way → Frame → Type 0
Started mach mach' count order way f = (calls : Calls false) → Rests mach count calls → Stands mach' f (started order way calls)

-- a number that a run tells is the one due, whatever calls went before
abbrev pub Tells : Machine → Frame → (Told → ℕ) → ℕ → Type 0
Tells mach f number n = (calls : Calls true) → Stands mach f calls → n ≡ number (due_told mach.depth calls)

-- what a run tells, and the blocks in its engine's row
abbrev pub told_by : Machine → Frame → Told
told_by mach f =
    record {
      taken = f.taken;
      handed_out = f.taken - length f.pending.items;
      inside = length f.pending.items;
      cycles = f.cycles;
      in_row = blocks mach.row;
      count = f.before + f.taken;
    }

-- a closed run's cartridge stands for its calls, and this closing; the accounts of the run are exact
abbrev pub Closed : (mach mach' : Machine) → Frame → (count : ℕ) → Type 0
Closed mach mach' f count =
    (calls : Calls true) → Stands mach f calls → Rests mach' count (closed (told_by mach f) calls) × Exact mach.depth calls (told_by mach f)

-- a relation between what is known of a run before a call and after it: what its engine means, and what it remembers
abbrev pub of_run {ℓ} : {X : Type ℓ} {E W : Type 0} → ((mach mach' : Machine) (f f' : Frame) → X) → (E → Machine) → (run run' : Run E W) → X
of_run R machine run run' = R (machine run.engine) (machine run'.engine) run.frame run'.frame
