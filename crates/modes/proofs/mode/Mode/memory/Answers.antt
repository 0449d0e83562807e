use Rattle.modes.proofs.Receiving.{recovery}
use Rattle.modes.proofs.mode.Mode.memory.Goals as goal

pub returns-clause-recovery : goal.returns-clause-recovery
returns-clause-recovery c = recovery
