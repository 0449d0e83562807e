-- What a job means: the units of its data, through its mode, over an engine under its keys.
use Rattle.std.specs.Prelude.{◌≡◌, ℕ, ◌≤◌, true, List, [], ◌∷◌, ◌++◌, length, drop, ℤ, pos, neg_ℤ, Ok, Err, Result}
use Rattle.refusals.specs.declared.Refusal.{Refusal}
use Rattle.refusals.specs.Refusals.{number_of}
use Rattle.engines.specs.Machines.{Machine}
use Rattle.modes.specs.declared.order.Order.{Order}
use Rattle.modes.specs.declared.way.Way.{Way}
use Rattle.modes.specs.Table.{row, distance_of}
use Rattle.modes.specs.Orders.{Opening, opening}
use Rattle.modes.specs.Results.{results}
use Rattle.calls.specs.Calls.{Calls, order_of, way_of, taken, handed_out}
use Rattle.calls.specs.Due.{due_told, Follows}
use Rattle.calls.specs.Runs.{run_of, runs_of}
use Rattle.runs.specs.Whole.{cycles_for}
use Rattle.job_format.specs.Fields.{Parts, and_then, fields_of, Bytes}
use Rattle.job_format.specs.UnitBytes.{units_in, bytes_of}
use Rattle.jobs.specs.declared.report.Report.{Report}
use Rattle.jobs.specs.Keys.{machine_under}
use Rattle.jobs.specs.Asking.{Asked, task_of}

-- the units taken, the cycles of feeding and draining them, and the bytes of all results
pub record Done : Type 0 where
  pub units : ℕ
  pub cycles : ℕ
  pub bytes : List ℕ

abbrev pub done_on : Machine → Opening → Way → List ℕ → Done
done_on mach o way bytes =
    let us = units_in (row o.mode).width bytes in
    record {
      units = length us;
      cycles = cycles_for mach.depth (distance_of o.mode way) us;
      bytes = bytes_of (row o.mode).width (results mach.forward mach.inverse o.mode way o.values us (length us));
    }

abbrev pub done : Asked → Done
done a = done_on (machine_under a.words) a.opening a.way a.bytes

-- what a job gives where there is so much room for the output
abbrev pub meaning : List ℕ → (room : ℕ) → Result Done Refusal
meaning job room = and_then (fields_of job) (λ p. and_then (task_of p room) (λ a. Ok (done a)))

-- ---- how it is told

abbrev pub report_of : Done → Report
report_of d = record { units = d.units; cycles = d.cycles; bytes = length d.bytes }

abbrev pub reported : Result Done Refusal → Result Report Refusal
reported (Ok d) = Ok (report_of d)
reported (Err e) = Err e

-- the output list: the bytes stand first, and the rest is as before; after a refusal all of it is
abbrev pub output_after : Result Done Refusal → List ℕ → List ℕ
output_after (Ok d) xs = d.bytes ++ drop (length d.bytes) xs
output_after (Err e) xs = xs

-- how many bytes, or minus the number of the refusal
abbrev pub signed : Result Report Refusal → ℤ
signed (Ok report) = pos report.bytes
signed (Err e) = neg_ℤ (pos (number_of e))

-- ---- as a run

-- the calls of one run on a new cartridge, each answered as is due, that took the job's units and handed out its results
pub record OneRun (a : Asked) (order : Order) : Type 0 where
  pub calls : Calls true
  pub follows : Follows (machine_under a.words).forward (machine_under a.words).inverse (machine_under a.words).depth calls
  pub first : runs_of calls ≡ run_of calls ∷ []
  pub opened : order_of calls ≡ order
  pub heads : way_of calls ≡ a.way
  pub took : taken calls ≡ units_in (row order.mode).width a.bytes
  pub gave_all : bytes_of (row order.mode).width (handed_out calls) ≡ (done a).bytes
  pub empty : (due_told (machine_under a.words).depth calls).in_row ≡ 0
  pub units : (due_told (machine_under a.words).depth calls).taken ≡ (done a).units
  pub cycles : (due_told (machine_under a.words).depth calls).cycles ≡ (done a).cycles

-- what a job gives is what such a run gives, so that the theorem over lists of calls speaks of jobs
abbrev pub JobsAreRuns : Type 0
JobsAreRuns = (p : Parts) (room : ℕ) (a : Asked) → task_of p room ≡ Ok a → (order : Order) → opening order ≡ a.opening → OneRun a order

-- ---- there and back

-- a job that deciphers what another enciphered, with the same keys, code and initial values
pub record Back (p q : Parts) (sent : List ℕ) : Type 0 where
  pub enciphers : p.direction ≡ 1 ∷ []
  pub deciphers : q.direction ≡ 2 ∷ []
  pub keys : q.keys ≡ p.keys
  pub code : q.code ≡ p.code
  pub initial_values : q.initial_values ≡ p.initial_values
  pub arrives : q.«data» ≡ sent

-- gives the data back
abbrev pub JobsRestore : Type 0
JobsRestore =
    (job back : List ℕ) (room room' : ℕ) (p q : Parts) (d : Done) → Bytes job → fields_of job ≡ Ok p → fields_of back ≡ Ok q
    → meaning job room ≡ Ok d → Back p q d.bytes → length d.bytes ≤ room'
    → (d' : Done) × (meaning back room' ≡ Ok d') × (d'.units ≡ d.units) × (d'.bytes ≡ p.«data»)
