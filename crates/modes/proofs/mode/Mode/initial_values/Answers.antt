use Rattle.modes.proofs.Receiving.{restoring}
use Rattle.modes.proofs.mode.Mode.initial_values.Goals as goal

pub returns-clause-restoring : goal.returns-clause-restoring
returns-clause-restoring c = restoring
