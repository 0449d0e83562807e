use Rattle.std.proofs.Common.{length}
use Rattle.jobs.specs.Asking.{task_asked}
use Rattle.jobs.proofs.Checked.{with_room}
use Rattle.jobs.proofs.Told.{limited}
use Rattle.jobs.proofs.Restoring.{jobs_restore}
use Rattle.jobs.proofs.running.run_job.Goals as goal

pub returns-in_err-fields-clause-restoring : goal.returns-in_err-fields-clause-restoring
returns-in_err-fields-clause-restoring c = jobs_restore

pub returns-in_err-task-clause-restoring : goal.returns-in_err-task-clause-restoring
returns-in_err-task-clause-restoring c = jobs_restore

pub returns-clause-limit : goal.returns-clause-limit
returns-clause-limit c =
    let task = c.in_ok-task.task in
    let room = length c.args.out.now in
    limited (task_asked task) room c.run.result (with_room _ _ room task.passage.checked c.in_ok-task.ensures.room) c.run.ensures.answer

pub returns-clause-restoring : goal.returns-clause-restoring
returns-clause-restoring c = jobs_restore
