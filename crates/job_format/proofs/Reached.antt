-- How far a job was read: what the reader holds is the job, and what reading the rest of it comes to.
use Rattle.std.proofs.Common.{◌≡◌, ℕ, List, IsErrAnd, Ok, Err, Result, sym, refl, ◌∙◌}
use Rattle.refusals.specs.declared.Refusal.{Refusal}
use Rattle.job_format.specs.declared.tag.Tag.{Tag}
use Rattle.job_format.specs.declared.reader.Field.{Field}
use Rattle.job_format.specs.declared.reader.Reader.{Reader}
use Rattle.job_format.specs.declared.fields.Fields.{Fields}
use Rattle.job_format.specs.Reading.{Found, field_at, found}
use Rattle.job_format.specs.Fields.{Parts, and_then, fields_of, parts_of}

pub record Reached (job held : List ℕ) (rest : Result Parts Refusal) : Type 0 where
  pub same : held ≡ job
  pub comes_to : fields_of job ≡ rest

pub started : {job held : List ℕ} → held ≡ job → Reached job held (fields_of job)
started same = record { same = same; comes_to = refl }

-- what the reader answers next, at offset p
module _ {A : Type 0} (read : List ℕ → ℕ → Result A Refusal) (on : A → Result Parts Refusal) {job held : List ℕ} {p q : ℕ} (here : p ≡ q)
    (reached : Reached job held (and_then (read job q) on)) where
  pub answered : {r : Result A Refusal} → r ≡ read held p → fields_of job ≡ and_then r on
  answered is = reached.comes_to ∙ rw (← reached.same, ← here, ← is)

  pub refused : {e : Refusal} (r : Result Fields Refusal) → Err e ≡ read held p → IsErrAnd r (λ y. y ≡ e) → parts_of r ≡ fields_of job
  refused (Err y) is by = rw by (sym (answered is))
  refused (Ok f) is by = absurd by

-- one field on
pub goes_on : (due : Tag) (on : Found → Result Parts Refusal) {job held : List ℕ} {p q : ℕ} → p ≡ q
    → Reached job held (and_then (field_at due job q) on) → (field : Field) (reader : Reader) → reader.job.now ≡ held
    → found (Ok field) reader.at ≡ field_at due held p → Reached job reader.job.now (and_then (found (Ok field) reader.at) on)
goes_on due on here reached field reader same is =
    record { same = same ∙ reached.same; comes_to = answered (field_at due) on here reached is }
