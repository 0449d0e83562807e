use Rattle.runs.proofs.Numbers.{cycles_told}
use Rattle.runs.proofs.run.Run.cycles.Goals as goal

pub returns-clause-due : goal.returns-clause-due
returns-clause-due g c = λ calls stands. cycles_told _ c.args.self.now.frame calls stands
