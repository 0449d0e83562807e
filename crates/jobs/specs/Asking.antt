-- What the fields of a job ask for. Where several refusals apply, the first in the order written here is answered.
use Rattle.std.specs.Prelude.{ℕ, cond, List, length, Some, None, Ok, Err, Option, Result, ◌==◌, slice_index}
use Rattle.refusals.specs.declared.Refusal.{Refusal}
use Rattle.refusals.specs.declared.Refusal.TheVariants.{UnknownCode, FieldLength, UnknownDirection}
use Rattle.modes.specs.declared.mode.Mode.{Mode}
use Rattle.modes.specs.declared.order.Order.{Order}
use Rattle.modes.specs.declared.way.Way.{Way}
use Rattle.modes.specs.declared.way.Way.TheVariants.{Enciphering, Deciphering}
use Rattle.modes.specs.Table.{with_code}
use Rattle.modes.specs.Orders.{Opening, opening, opened}
use Rattle.job_format.specs.declared.tag.Tag.{Tag}
use Rattle.job_format.specs.declared.tag.Tag.TheVariants.{Code, Direction}
use Rattle.job_format.specs.Tags.{tag_number}
use Rattle.job_format.specs.Fields.{Parts, and_then}
use Rattle.jobs.specs.declared.task.Task.{Task}
pub use Rattle.jobs.specs.Checking.{data_limit, data_checked}
use Rattle.jobs.specs.Keys.{Words, keys_loaded, words_held}

-- a field of one byte
abbrev pub only_byte_of : Tag → List ℕ → Result ℕ Refusal
only_byte_of tag field = cond (length field == 1) (Ok (slice_index field 0)) (Err (FieldLength (tag_number tag)))

-- 1 enciphers, 2 deciphers
abbrev pub way_of_direction : ℕ → Result Way Refusal
way_of_direction direction = cond (direction == 1) (Ok Enciphering) (cond (direction == 2) (Ok Deciphering) (Err (UnknownDirection direction)))

-- the mode that the code names, if any; the direction; the initial values
abbrev pub opened_for : Option Mode → (code direction : ℕ) → List ℕ → Result (Opening × Way) Refusal
opened_for None code direction values = Err (UnknownCode code)
opened_for (Some m) code direction values = and_then (way_of_direction direction) (λ way. and_then (opened m values) (λ o. Ok (o, way)))

-- the code and the direction are a byte each
abbrev pub opening_of : Parts → Result (Opening × Way) Refusal
opening_of p =
    and_then (only_byte_of Code p.code) (λ code.
    and_then (only_byte_of Direction p.direction) (λ direction.
    opened_for (with_code code) code direction p.initial_values))

-- keys, an opening and a way for a run, and the bytes of its units
pub record Asked : Type 0 where
  pub words : Words
  pub opening : Opening
  pub way : Way
  pub bytes : List ℕ

-- the keys, the opening, the data
abbrev pub task_of : Parts → (room : ℕ) → Result Asked Refusal
task_of p room =
    and_then (keys_loaded p.keys) (λ words.
    and_then (opening_of p) (λ o.
    and_then (data_checked o.0.mode p.«data» room) (λ _.
    Ok (record { words = words; opening = o.0; way = o.1; bytes = p.«data» }))))

-- ---- what the program holds

abbrev pub order_and_way : Result (Order × Way) Refusal → Result (Opening × Way) Refusal
order_and_way (Ok o) = Ok (opening o.0, o.1)
order_and_way (Err e) = Err e

abbrev pub task_asked : Task → Asked
task_asked t = record { words = words_held t.keys; opening = opening t.passage.order; way = t.passage.way; bytes = t.passage.«data».now }

abbrev pub task_in : Result Task Refusal → Result Asked Refusal
task_in (Ok t) = Ok (task_asked t)
task_in (Err e) = Err e
