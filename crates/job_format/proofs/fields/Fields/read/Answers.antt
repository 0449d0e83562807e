use Rattle.std.proofs.Common.{refl}
use Rattle.job_format.specs.declared.tag.Tag.TheVariants.{Keys, Code, Direction, InitialValues, Data}
use Rattle.job_format.specs.Reading.{field_at, end_at}
use Rattle.job_format.proofs.Reached.{started, refused, goes_on}
use Rattle.job_format.proofs.fields.Fields.read.Goals as goal

pub returns-in_err-field-3-clause-value : goal.returns-in_err-field-3-clause-value
returns-in_err-field-3-clause-value c =
    let keys = goes_on Keys _ c.new-reader.ensures.1 (started c.new-reader.ensures.0) c.in_ok-field.field-0 c.field.new.self c.field.ensures.same c.in_ok-field.ensures.value in
    let code = goes_on Code _ refl keys c.in_ok-field-2.field-0 c.field-2.new.self c.field-2.ensures.same c.in_ok-field-2.ensures.value in
    refused (field_at Direction) _ refl code _ c.in_err-field-3.ensures.value c.from_residual-in_err-field-3.ensures.1

pub returns-in_err-field-4-clause-value : goal.returns-in_err-field-4-clause-value
returns-in_err-field-4-clause-value c =
    let keys = goes_on Keys _ c.new-reader.ensures.1 (started c.new-reader.ensures.0) c.in_ok-field.field-0 c.field.new.self c.field.ensures.same c.in_ok-field.ensures.value in
    let code = goes_on Code _ refl keys c.in_ok-field-2.field-0 c.field-2.new.self c.field-2.ensures.same c.in_ok-field-2.ensures.value in
    let direction = goes_on Direction _ refl code c.in_ok-field-3.field-0 c.field-3.new.self c.field-3.ensures.same c.in_ok-field-3.ensures.value in
    refused (field_at InitialValues) _ refl direction _ c.in_err-field-4.ensures.value c.from_residual-in_err-field-4.ensures.1

pub returns-in_err-field-5-clause-value : goal.returns-in_err-field-5-clause-value
returns-in_err-field-5-clause-value c =
    let keys = goes_on Keys _ c.new-reader.ensures.1 (started c.new-reader.ensures.0) c.in_ok-field.field-0 c.field.new.self c.field.ensures.same c.in_ok-field.ensures.value in
    let code = goes_on Code _ refl keys c.in_ok-field-2.field-0 c.field-2.new.self c.field-2.ensures.same c.in_ok-field-2.ensures.value in
    let direction = goes_on Direction _ refl code c.in_ok-field-3.field-0 c.field-3.new.self c.field-3.ensures.same c.in_ok-field-3.ensures.value in
    let values = goes_on InitialValues _ refl direction c.in_ok-field-4.field-0 c.field-4.new.self c.field-4.ensures.same c.in_ok-field-4.ensures.value in
    refused (field_at Data) _ refl values _ c.in_err-field-5.ensures.value c.from_residual-in_err-field-5.ensures.1

pub returns-in_err-end-clause-value : goal.returns-in_err-end-clause-value
returns-in_err-end-clause-value c =
    let keys = goes_on Keys _ c.new-reader.ensures.1 (started c.new-reader.ensures.0) c.in_ok-field.field-0 c.field.new.self c.field.ensures.same c.in_ok-field.ensures.value in
    let code = goes_on Code _ refl keys c.in_ok-field-2.field-0 c.field-2.new.self c.field-2.ensures.same c.in_ok-field-2.ensures.value in
    let direction = goes_on Direction _ refl code c.in_ok-field-3.field-0 c.field-3.new.self c.field-3.ensures.same c.in_ok-field-3.ensures.value in
    let values = goes_on InitialValues _ refl direction c.in_ok-field-4.field-0 c.field-4.new.self c.field-4.ensures.same c.in_ok-field-4.ensures.value in
    let last = goes_on Data _ refl values c.in_ok-field-5.field-0 c.field-5.new.self c.field-5.ensures.same c.in_ok-field-5.ensures.value in
    refused end_at _ refl last _ c.in_err-end.ensures c.from_residual-in_err-end.ensures.1
