use Rattle.std.proofs.Common.{◌≡◌, ◌-◌, length, ◌∙◌, rules}
use Rattle.runs.proofs.Numbers.{handed_out_told}
use Rattle.runs.proofs.run.Run.units_handed_out.Goals as goal

pub returns-clause-due : goal.returns-clause-due
returns-clause-due g c = λ calls stands.
    let f = c.args.self.now.frame in
    let is : c.saturating_sub.result ≡ f.taken - length f.pending.items = search rules in
    is ∙ handed_out_told _ f calls stands
