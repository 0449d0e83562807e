use Rattle.std.proofs.Common.{rules}
use Rattle.cipher.proofs.dea.substitution.permuted_answers.Goals as goal

pub returns : goal.returns
returns c = λ n h. let called = c.from_fn.ensures.items.at n 0 h in search rules
