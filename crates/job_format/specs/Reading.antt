-- A field of a job: a tag in one byte, a length in two, the high byte first, and so many bytes.
use Rattle.std.specs.Prelude.{ℕ, ◌+◌, ◌*◌, cond, List, length, take, drop, Ok, Err, Result, ◌==◌, nat_lt, slice_index}
use Rattle.refusals.specs.declared.Refusal.{Refusal}
use Rattle.refusals.specs.declared.Refusal.TheVariants.{FieldTruncated, FieldTag, TrailingBytes}
use Rattle.job_format.specs.declared.tag.Tag.{Tag}
use Rattle.job_format.specs.declared.reader.Field.{Field}
use Rattle.job_format.specs.Tags.{tag_number}

-- a field that was read: its tag, its bytes, and the offset behind it
pub record Found : Type 0 where
  pub tag : Tag
  pub bytes : List ℕ
  pub after : ℕ

-- the length that the field at offset p says it has
abbrev pub length_at : List ℕ → ℕ → ℕ
length_at job p = 256 * slice_index job (p + 1) + slice_index job (p + 2)

-- the field at offset p, where this tag is due
abbrev pub field_at : Tag → List ℕ → ℕ → Result Found Refusal
field_at due job p =
    cond (nat_lt (length job) (p + 3)) (Err (FieldTruncated p))
    (cond ((slice_index job p) == tag_number due)
    (cond (nat_lt (length job) (p + 3 + length_at job p)) (Err (FieldTruncated p))
    (Ok (record { tag = due; bytes = take (length_at job p) (drop (p + 3) job); after = p + 3 + length_at job p })))
    (Err (FieldTag p)))

-- nothing may be left at offset p
abbrev pub end_at : List ℕ → ℕ → Result (Unit {0}) Refusal
end_at job p = cond (nat_lt p (length job)) (Err (TrailingBytes p)) (Ok tt)

-- what a reader's answer holds, where the reader then stands at offset p
abbrev pub found : Result Field Refusal → ℕ → Result Found Refusal
found (Ok field) p = Ok (record { tag = field.tag; bytes = field.bytes.now; after = p })
found (Err e) p = Err e
