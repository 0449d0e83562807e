use Rattle.modes.proofs.Openings.{orders_are_answers}
use Rattle.modes.proofs.order.Order.mode.Goals as goal

pub returns-clause-law : goal.returns-clause-law
returns-clause-law c = orders_are_answers
