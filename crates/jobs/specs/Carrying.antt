-- A run on its way through the units of a job.
use Rattle.std.specs.Prelude.{◌≡◌, ℕ, ◌+◌, ◌*◌, ◌^◌, ◌<◌, ◌≤◌, true, List, [], ◌∷◌, ◌++◌, length, take, drop, Ok, Result}
use Rattle.refusals.specs.declared.Refusal.{Refusal}
use Rattle.engines.specs.Machines.{Machine}
use Rattle.modes.specs.declared.mode.Mode.{Mode}
use Rattle.modes.specs.declared.way.Way.{Way}
use Rattle.modes.specs.declared.order.Order.{Order}
use Rattle.modes.specs.Table.{row, distance_of}
use Rattle.modes.specs.Values.{listed}
use Rattle.modes.specs.Orders.{opening}
use Rattle.modes.specs.Results.{results}
use Rattle.calls.specs.Limits.{unit_limit}
use Rattle.calls.specs.Calls.{Calls, new, started, order_of, way_of, taken, handed_out, stretch, ended, count_before}
use Rattle.runs.specs.declared.frame.Frame.{Frame}
use Rattle.runs.specs.Stands.{Stands}
use Rattle.runs.specs.Whole.{cycles_for}
use Rattle.job_format.specs.UnitBytes.{unit_size, units_in, bytes_of}
use Rattle.jobs.specs.declared.report.Report.{Report}
use Rattle.jobs.specs.Asking.{data_checked}
use Rattle.jobs.specs.Meaning.{done_on, report_of, output_after}

-- the first run of a cartridge took the units us and was not drained; what it handed out stands first in the output list, which was xs
-- before and is ys now, and ends at an offset
pub record UnderWay (mach : Machine) (f : Frame) (order : Order) (way : Way) (us xs ys : List ℕ) (offset : ℕ) : Type 0 where
  pub calls : Calls true
  pub stands : Stands mach f calls
  pub order_is : order_of calls ≡ order
  pub way_is : way_of calls ≡ way
  pub took : taken calls ≡ us
  pub one_stretch : stretch calls ≡ length us
  pub undrained : ended calls ≡ []
  pub first_run : count_before calls ≡ 0
  pub offset_is : offset ≡ length (bytes_of (row order.mode).width (handed_out calls))
  pub output : ys ≡ bytes_of (row order.mode).width (handed_out calls) ++ drop (length (bytes_of (row order.mode).width (handed_out calls))) xs

-- it was drained: all results stand in the output list
pub record AllOut (mach : Machine) (f : Frame) (order : Order) (way : Way) (us xs ys : List ℕ) (offset : ℕ) : Type 0 where
  pub units : f.taken ≡ length us
  pub cycles : f.cycles ≡ cycles_for mach.depth (distance_of order.mode way) us
  pub all : List ℕ
  pub all_is : all ≡ bytes_of (row order.mode).width (results mach.forward mach.inverse order.mode way (listed order.values) us (length us))
  pub offset_is : offset ≡ length all
  pub output : ys ≡ all ++ drop (length all) xs

-- there is room for the bytes of n units
abbrev pub Room : Order → ℕ → List ℕ → Type 0
Room order n xs = unit_size (row order.mode).width * n ≤ length xs

-- one unit more
abbrev pub FedOn : (mach mach' : Machine) (f f' : Frame) → Mode → (unit offset offset' : ℕ) (ys ys' : List ℕ) → Result (Unit {0}) Refusal → Type 0
FedOn mach mach' f f' mode unit offset offset' ys ys' r =
    (order : Order) (way : Way) (us xs : List ℕ) → order.mode ≡ mode → UnderWay mach f order way us xs ys offset
    → unit < 2 ^ (row mode).width → length us + 1 ≤ unit_limit → Room order (length us + 1) xs
    → (r ≡ Ok tt) × UnderWay mach' f' order way (us ++ unit ∷ []) xs ys' offset'

-- the first units of the data, from the start of a new cartridge's run on
abbrev pub FedSome : (mach mach' : Machine) (f f' : Frame) → Mode → (bytes xs ys : List ℕ) (count offset : ℕ) → Type 0
FedSome mach mach' f f' mode bytes xs ys count offset =
    (order : Order) (way : Way) → order.mode ≡ mode → Stands mach f (started order way new) → data_checked mode bytes (length xs) ≡ Ok tt
    → UnderWay mach' f' order way (take count (units_in (row mode).width bytes)) xs ys offset

-- the drain at the end
abbrev pub DrainedOff : (mach mach' : Machine) (f f' : Frame) → Mode → (offset offset' : ℕ) (ys ys' : List ℕ) → Result (Unit {0}) Refusal → Type 0
DrainedOff mach mach' f f' mode offset offset' ys ys' r =
    (order : Order) (way : Way) (us xs : List ℕ) → order.mode ≡ mode → UnderWay mach f order way us xs ys offset → Room order (length us) xs
    → (r ≡ Ok tt) × AllOut mach' f' order way us xs ys' offset'

-- the whole of it
abbrev pub CarriedOut : Machine → Frame → Mode → (bytes xs ys : List ℕ) → Result Report Refusal → Type 0
CarriedOut mach f mode bytes xs ys r =
    (order : Order) (way : Way) → order.mode ≡ mode → Stands mach f (started order way new) → data_checked mode bytes (length xs) ≡ Ok tt
    → (r ≡ Ok (report_of (done_on mach (opening order) way bytes))) × (ys ≡ output_after (Ok (done_on mach (opening order) way bytes)) xs)
