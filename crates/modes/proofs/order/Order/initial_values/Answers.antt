use Rattle.modes.proofs.Openings.{suits_begins, same_opening_same_order}
use Rattle.modes.proofs.order.Order.initial_values.Goals as goal

pub returns-clause-suited : goal.returns-clause-suited
returns-clause-suited c = suits_begins c.args.self.mode c.args.self.values c.args.self.suited

pub returns-clause-law : goal.returns-clause-law
returns-clause-law c = same_opening_same_order
