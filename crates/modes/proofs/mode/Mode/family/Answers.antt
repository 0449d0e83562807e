use Rattle.modes.proofs.Numbered.{equations}
use Rattle.modes.proofs.mode.Mode.family.Goals as goal

pub returns-clause-equations : goal.returns-clause-equations
returns-clause-equations c = equations
