use Rattle.modes.proofs.Damages.{damage}
use Rattle.modes.proofs.mode.Mode.reach.Goals as goal

pub returns-clause-damage : goal.returns-clause-damage
returns-clause-damage c = damage
