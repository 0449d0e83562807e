use Rattle.calls.proofs.Whole.{theorem}
use Rattle.calls.proofs.limit.Goals as goal

pub returns-clause-theorem : goal.returns-clause-theorem
returns-clause-theorem c = theorem
