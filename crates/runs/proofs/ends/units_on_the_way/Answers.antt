use Rattle.runs.proofs.Between.{between}
use Rattle.runs.proofs.ends.units_on_the_way.Goals as goal

pub returns-clause-between : goal.returns-clause-between
returns-clause-between g c =
    let sender = c.args.sender.now in
    let receiver = c.args.receiver.now in
    between _ _ sender.frame receiver.frame (g.met.S.Engine.undo sender.engine) (g.met.R.Engine.undo receiver.engine)
