-- Data that a job may have.
use Rattle.std.specs.Prelude.{ℕ, ◌%◌, cond, List, length, Some, None, Ok, Err, Result, ◌==◌, nat_lt}
use Rattle.refusals.specs.declared.Refusal.{Refusal}
use Rattle.refusals.specs.declared.Refusal.TheVariants.{DataLength, PartialUnit, UnitWidth, OutputLength}
use Rattle.modes.specs.declared.mode.Mode.{Mode}
use Rattle.modes.specs.Table.{row}
use Rattle.modes.specs.Widths.{first_wide}
use Rattle.job_format.specs.UnitBytes.{unit_size, units_in}

-- the most bytes of data
abbrev pub data_limit : ℕ
data_limit = 32768

-- the data is not too long, is whole units, none of them too wide, and has room
abbrev pub data_checked : Mode → List ℕ → (room : ℕ) → Result (Unit {0}) Refusal
data_checked m bytes room =
    cond (nat_lt data_limit (length bytes)) (Err (DataLength (length bytes)))
    (cond (length bytes % unit_size (row m).width == 0)
    (elim (first_wide (row m).width 0 (units_in (row m).width bytes)) [
      | Some i ↦ Err (UnitWidth i)
      | None ↦ cond (nat_lt room (length bytes)) (Err (OutputLength (length bytes))) (Ok tt)
    ])
    (Err (PartialUnit (length bytes))))
