use Rattle.std.proofs.Common.{sym, refl, subst}
use Rattle.calls.specs.Theorem.{Exact}
use Rattle.calls.proofs.Whole.{accounts_due, theorem}
use Rattle.runs.proofs.Numbers.{told_due}
use Rattle.runs.proofs.run.Run.close.Goals as goal

pub returns-clause-closed : goal.returns-clause-closed
returns-clause-closed g c = λ calls stands.
    let mach = g.E.Engine.machine c.args.self.engine in
    let told = told_due mach c.args.self.frame calls stands in (
      record { follows = (told, stands.follows); tells = refl },
      subst (Exact mach.depth calls) (sym told) (accounts_due mach.forward mach.inverse mach.depth calls stands.follows),
    )

pub returns-clause-theorem : goal.returns-clause-theorem
returns-clause-theorem g c = theorem
