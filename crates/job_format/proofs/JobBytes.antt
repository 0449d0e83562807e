-- A job that was written is read, and a job that was read was written.
use Rattle.std.proofs.Common.{◌≡◌, ℕ, zero, suc, ◌<◌, List, [], ◌++◌, length, drop, Ok, Err, Result, sym, refl, ap, ◌∙◌, append_assoc, arith, lit<}
use Rattle.std.proofs.lemmas.List.{append-nil, length-drop, drop_all}
use Rattle.std.proofs.lemmas.Bool.{le-ltb}
use Rattle.std.proofs.lemmas.Bool.Decides.{nat_tests}
use Rattle.refusals.specs.declared.Refusal.{Refusal}
use Rattle.calls.proofs.OpenRun.{units_append}
use Rattle.job_format.specs.declared.tag.Tag.{Tag}
use Rattle.job_format.specs.declared.tag.Tag.TheVariants.{Keys, Code, Direction, InitialValues, Data}
use Rattle.job_format.specs.Tags.{tag_number}
use Rattle.job_format.specs.Reading.{field_at, end_at}
use Rattle.job_format.specs.Fields.{Parts, and_then, fields_of, field_bytes, job_bytes, Bytes, Fits, Fitting, Format}
use Rattle.job_format.proofs.FieldBytes.{written_field_is_read, read_field_was_written}

-- a job's bytes, each field before all that is behind it
nested : (p : Parts) → job_bytes p
    ≡ field_bytes Keys p.keys ++ (field_bytes Code p.code ++ (field_bytes Direction p.direction
    ++ (field_bytes InitialValues p.initial_values ++ (field_bytes Data p.«data» ++ []))))
nested p = lists (field_bytes Keys p.keys) (field_bytes Code p.code) (field_bytes Direction p.direction) (field_bytes InitialValues p.initial_values) (field_bytes Data p.«data»)
  where
    lists : (a b c d e : List ℕ) → a ++ b ++ c ++ d ++ e ≡ a ++ (b ++ (c ++ (d ++ (e ++ []))))
    lists a b c d e = simp (append_assoc, append-nil)

tag_is_byte : (tag : Tag) → tag_number tag < 256
tag_is_byte Keys = lit< tt
tag_is_byte Code = lit< tt
tag_is_byte Direction = lit< tt
tag_is_byte InitialValues = lit< tt
tag_is_byte Data = lit< tt

job_is_read : (p : Parts) (job : List ℕ) → job ≡ job_bytes p → fields_of job ≡ Ok p
job_is_read p job is =
    let keys = written_field_is_read Keys job 0 p.keys _ (is ∙ nested p) in
    let code = written_field_is_read Code job _ p.code _ keys.behind in
    let direction = written_field_is_read Direction job _ p.direction _ code.behind in
    let values = written_field_is_read InitialValues job _ p.initial_values _ direction.behind in
    let last = written_field_is_read Data job _ p.«data» [] values.behind in
    rw (keys.is, code.is, direction.is, values.is, last.is, none_left _ last.behind)
  where
    none_left : (p : ℕ) → drop p job ≡ [] → end_at job p ≡ Ok tt
    none_left p none = rw (le-ltb p (length job) (omega (arith, simp length-drop at (ap length none))))

-- where something is answered, nothing was refused
pub not_refused : {A B C : Type 0} (r : Result A Refusal) (on : A → Result B Refusal) (y : B) → and_then r on ≡ Ok y
    → ((x : A) → r ≡ Ok x → on x ≡ Ok y → C) → C
not_refused (Ok x) on y e go = go x refl e
not_refused (Err x) on y e go = cc

job_was_written : (job : List ℕ) (p : Parts) → Bytes job → fields_of job ≡ Ok p → (job ≡ job_bytes p) × Fitting p
job_was_written job p bytes e =
    not_refused (field_at Keys job 0) _ p e (λ a a-is e.
    not_refused (field_at Code job a.after) _ p e (λ b b-is e.
    not_refused (field_at Direction job b.after) _ p e (λ c c-is e.
    not_refused (field_at InitialValues job c.after) _ p e (λ d d-is e.
    not_refused (field_at Data job d.after) _ p e (λ l l-is e.
    not_refused (end_at job l.after) _ p e (λ _ end e.
    let keys = read_field_was_written Keys job 0 a bytes a-is in
    let code = read_field_was_written Code job a.after b bytes b-is in
    let direction = read_field_was_written Direction job b.after c bytes c-is in
    let values = read_field_was_written InitialValues job c.after d bytes d-is in
    let last = read_field_was_written Data job d.after l bytes l-is in
    let none : drop l.after job ≡ [] = drop_all l.after job (grind (arith, nat_tests)) in
    let is = rw (code.lies, direction.lies, values.lies, last.lies, none) at keys.lies in
    let parts : record { keys = a.bytes; code = b.bytes; direction = c.bytes; initial_values = d.bytes; «data» = l.bytes } ≡ p = cc in
    rw (← parts) (is ∙ sym (nested _), (keys.fits, code.fits, direction.fits, values.fits, last.fits))))))))

-- a field of bytes that two bytes can count is bytes with its tag and length
field_is_bytes : (tag : Tag) (bs : List ℕ) → Fits bs → Bytes (field_bytes tag bs)
field_is_bytes tag bs fits zero l = tag_is_byte tag
field_is_bytes tag bs fits (suc zero) l = omega (arith, fits.0)
field_is_bytes tag bs fits (suc (suc zero)) l = omega arith
field_is_bytes tag bs fits (suc (suc (suc k))) l = fits.1 k (omega arith)

job_is_bytes : (p : Parts) → Fitting p → Bytes (job_bytes p)
job_is_bytes p f =
    lists (field_bytes Keys p.keys) (field_bytes Code p.code) (field_bytes Direction p.direction) (field_bytes InitialValues p.initial_values) (field_bytes Data p.«data»)
    (field_is_bytes Keys p.keys f.0) (field_is_bytes Code p.code f.1) (field_is_bytes Direction p.direction f.2)
    (field_is_bytes InitialValues p.initial_values f.3) (field_is_bytes Data p.«data» f.4)
  where
    lists : (a b c d e : List ℕ) → Bytes a → Bytes b → Bytes c → Bytes d → Bytes e → Bytes (a ++ b ++ c ++ d ++ e)
    lists a b c d e ha hb hc hd he =
        units_append 8 (a ++ b ++ c ++ d) e (units_append 8 (a ++ b ++ c) d (units_append 8 (a ++ b) c (units_append 8 a b ha hb) hc) hd) he

pub format : Format
format = record { written_is_bytes = job_is_bytes; written_is_read = λ p. job_is_read p (job_bytes p) refl; read_was_written = job_was_written }
