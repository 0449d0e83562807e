use Rattle.std.proofs.Common.{◌≡◌, length, ap, ◌∙◌, rules}
use Rattle.std.proofs.lemmas.Result.{IfOk-weaker}
use Rattle.jobs.specs.Asking.{data_limit}
use Rattle.jobs.specs.Meaning.{meaning}
use Rattle.jobs.proofs.Restoring.{jobs_restore}
use Rattle.job_text.specs.Texts.{answer_text}
use Rattle.job_text.proofs.Told.{report_told, refusal_told}
use Rattle.job_text.proofs.answering.answer.Goals as goal

pub returns-in_err-room-clause-restoring : goal.returns-in_err-room-clause-restoring
returns-in_err-room-clause-restoring c = jobs_restore

pub returns-in-Ok-clause-text : goal.returns-in-Ok-clause-text
returns-in-Ok-clause-text c =
    let full : length c.as_mut_slice-out.result.now ≡ data_limit = search rules in
    let run = c.in-Ok.ensures in
    let told = report_told _ _ _ _ run.answer run.output ∙ ap (λ room. answer_text (meaning c.args.job.now room)) full in
    IfOk-weaker c.report_lines.result _ _ (λ s e. e ∙ told) c.report_lines.ensures

pub returns-clause-text : goal.returns-clause-text
returns-clause-text c =
    let full : length c.as_mut_slice-out.result.now ≡ data_limit = search rules in
    let told = refusal_told _ _ c.in-Err.ensures.answer ∙ ap (λ room. answer_text (meaning c.args.job.now room)) full in
    IfOk-weaker c.refusal_line.result _ _ (λ s e. e ∙ told) c.refusal_line.ensures
