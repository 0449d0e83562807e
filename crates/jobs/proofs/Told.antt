-- What is told of a job, by how far it came.
use Rattle.std.proofs.Common.{◌≡◌, ℕ, ◌≤◌, List, length, IfOk, Ok, Result, sym, refl, ap, ◌∙◌, subst, arith}
use Rattle.refusals.specs.declared.Refusal.{Refusal}
use Rattle.engines.specs.Machines.{Machine}
use Rattle.engines.specs.Cycles.{emptied}
use Rattle.modes.specs.declared.way.Way.{Way}
use Rattle.modes.specs.declared.order.Order.{Order}
use Rattle.modes.specs.Orders.{opening}
use Rattle.calls.specs.Calls.{new, started}
use Rattle.runs.specs.declared.frame.Frame.{Frame}
use Rattle.runs.specs.Stands.{Stands}
use Rattle.jobs.specs.declared.report.Report.{Report}
use Rattle.jobs.specs.Keys.{machine_under}
use Rattle.jobs.specs.Asking.{data_limit, data_checked, Asked}
use Rattle.jobs.specs.Meaning.{done_on, done, report_of, output_after}
use Rattle.jobs.specs.Carrying.{CarriedOut}
use Rattle.jobs.proofs.Checked.{passing}
use Rattle.jobs.proofs.Restoring.{done_length}

-- that a start empties the engine alters nothing of what a job gives
pub on_new_cartridge : (mach mach1 : Machine) (f : Frame) (order : Order) (way : Way) (bytes xs ys : List ℕ) (r : Result Report Refusal) → mach1 ≡ emptied mach
    → Stands mach1 f (started order way new) → data_checked order.mode bytes (length xs) ≡ Ok (tt {0}) → CarriedOut mach1 f order.mode bytes xs ys r
    → (r ≡ Ok (report_of (done_on mach (opening order) way bytes))) × (ys ≡ output_after (Ok (done_on mach (opening order) way bytes)) xs)
on_new_cartridge mach mach1 f order way bytes xs ys r empty stands checked carried =
    let p = carried order way refl stands checked in (
      p.0 ∙ ap (λ m. Ok (report_of (done_on m (opening order) way bytes))) empty,
      p.1 ∙ ap (λ m. output_after (Ok (done_on m (opening order) way bytes)) xs) empty,
    )

-- no more than the data of a job can be
pub limited : (a : Asked) (room : ℕ) (r : Result Report Refusal) → data_checked a.opening.mode a.bytes room ≡ Ok (tt {0}) → r ≡ Ok (report_of (done a))
    → IfOk r (λ t. t.bytes ≤ data_limit)
limited a room r checked told =
    let pass = passing a.opening.mode a.bytes room checked in
    subst (λ r. IfOk r (λ t. t.bytes ≤ data_limit)) (sym told)
    (omega (arith, done_length (machine_under a.words) a.opening a.way a.bytes room pass, pass.few))
