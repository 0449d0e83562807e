use Rattle.modes.proofs.Receiving.{units_give_units, prefix}
use Rattle.modes.proofs.mode.Mode.width.Goals as goal

pub returns-clause-units : goal.returns-clause-units
returns-clause-units c = units_give_units

pub returns-clause-prefix : goal.returns-clause-prefix
returns-clause-prefix c = prefix
