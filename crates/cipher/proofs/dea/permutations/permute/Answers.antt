use Rattle.std.proofs.Common.{◌≡◌, ℕ, refl, ◌∙◌, rules, arith}
use Rattle.std.proofs.lemmas.Fn.{fold_over, fronts}
use Rattle.std.proofs.lemmas.Iterator.{YieldsList-from_slice}
use Rattle.cipher.specs.declared.dea.permutations.TheConstants.{EXCHANGES}
use Rattle.cipher.specs.Exchanges.{all_exchanged}
use Rattle.cipher.proofs.Exchanges.{exchanged_push, ip_exchanged}
use Rattle.cipher.proofs.dea.permutations.permute.Goals as goal

pub returns : goal.returns
returns c =
    let block : ℕ = c.args.block in
    let folded : c.fold.result ≡ all_exchanged EXCHANGES block =
    fold_over fronts (λ y. y.now) _ (λ es x. x ≡ all_exchanged es block) _
    (λ es x e y f called so_far. let more = exchanged_push es e.now block in search rules)
    c.iter-exchanges.result EXCHANGES _ _ (YieldsList-from_slice {s = c.iter-exchanges.result} EXCHANGES (cc)).runs refl c.fold.ensures.ran in
    folded ∙ ip_exchanged block (omega arith)
