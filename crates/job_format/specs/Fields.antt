-- The five fields of a job, read and written.
use Rattle.std.specs.Prelude.{◌≡◌, ℕ, ◌/◌, ◌%◌, ◌<◌, List, ◌∷◌, ◌++◌, length, Ok, Err, Result}
use Rattle.refusals.specs.declared.Refusal.{Refusal}
use Rattle.modes.specs.Values.{Units}
use Rattle.job_format.specs.declared.tag.Tag.{Tag}
use Rattle.job_format.specs.declared.tag.Tag.TheVariants.{Keys, Code, Direction, InitialValues, Data}
use Rattle.job_format.specs.declared.fields.Fields.{Fields}
use Rattle.job_format.specs.Tags.{tag_number}
use Rattle.job_format.specs.Reading.{field_at, end_at}

-- what the five fields hold
pub record Parts : Type 0 where
  pub keys : List ℕ
  pub code : List ℕ
  pub direction : List ℕ
  pub initial_values : List ℕ
  pub «data» : List ℕ

-- a refusal ends it, else it goes on with what was found
abbrev pub and_then : {A B : Type 0} → Result A Refusal → (A → Result B Refusal) → Result B Refusal
and_then (Ok x) on = on x
and_then (Err e) on = Err e

abbrev pub fields_of : List ℕ → Result Parts Refusal
fields_of job =
    and_then (field_at Keys job 0) (λ keys.
    and_then (field_at Code job keys.after) (λ code.
    and_then (field_at Direction job code.after) (λ direction.
    and_then (field_at InitialValues job direction.after) (λ values.
    and_then (field_at Data job values.after) (λ last.
    and_then (end_at job last.after) (λ _.
    Ok (record { keys = keys.bytes; code = code.bytes; direction = direction.bytes; initial_values = values.bytes; «data» = last.bytes })))))))

-- what the reader's fields hold, and its answer
abbrev pub parts_in : Fields → Parts
parts_in f =
    record { keys = f.keys.now; code = f.code.now; direction = f.direction.now; initial_values = f.initial_values.now; «data» = f.«data».now }

abbrev pub parts_of : Result Fields Refusal → Result Parts Refusal
parts_of (Ok f) = Ok (parts_in f)
parts_of (Err e) = Err e

-- ---- the format, as a job is written

abbrev pub Bytes : List ℕ → Type 0
Bytes bs = Units 8 bs

abbrev pub field_bytes : Tag → List ℕ → List ℕ
field_bytes tag bytes = tag_number tag ∷ length bytes / 256 ∷ length bytes % 256 ∷ bytes

abbrev pub job_bytes : Parts → List ℕ
job_bytes p =
    field_bytes Keys p.keys ++ field_bytes Code p.code ++ field_bytes Direction p.direction
    ++ field_bytes InitialValues p.initial_values ++ field_bytes Data p.«data»

-- bytes, no more than two bytes can count
abbrev pub Fits : List ℕ → Type 0
Fits bytes = (length bytes < 65536) × Bytes bytes

abbrev pub Fitting : Parts → Type 0
Fitting p = Fits p.keys × Fits p.code × Fits p.direction × Fits p.initial_values × Fits p.«data»

-- what was written is bytes and is read, and nothing else is read
pub record Format : Type 0 where
  pub written_is_bytes : (p : Parts) → Fitting p → Bytes (job_bytes p)
  pub written_is_read : (p : Parts) → fields_of (job_bytes p) ≡ Ok p
  pub read_was_written : (job : List ℕ) (p : Parts) → Bytes job → fields_of job ≡ Ok p → (job ≡ job_bytes p) × Fitting p
