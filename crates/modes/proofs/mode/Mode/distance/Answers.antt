use Rattle.modes.proofs.Fits.{distance_proper}
use Rattle.modes.proofs.Entries.{schedule}
use Rattle.modes.proofs.mode.Mode.distance.Goals as goal

pub returns-clause-proper : goal.returns-clause-proper
returns-clause-proper c = λ e. distance_proper c.args.self c.args.way (cc)

pub returns-clause-schedule : goal.returns-clause-schedule
returns-clause-schedule c = schedule
