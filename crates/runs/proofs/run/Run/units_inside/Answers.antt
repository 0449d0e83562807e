use Rattle.std.proofs.Common.{sym, ◌∙◌}
use Rattle.runs.proofs.Numbers.{inside_told, in_row_told}
use Rattle.runs.proofs.run.Run.units_inside.Goals as goal

pub returns-clause-due : goal.returns-clause-due
returns-clause-due g c = λ calls stands. c.len.ensures.value ∙ inside_told _ c.args.self.now.frame calls stands

pub returns-clause-row : goal.returns-clause-row
returns-clause-row g c = λ calls stands.
    let f = c.args.self.now.frame in
    c.len.ensures.value ∙ inside_told _ f calls stands ∙ sym (in_row_told _ f calls stands)
