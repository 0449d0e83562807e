use Rattle.std.proofs.Common.{◌≡◌, ℕ, reverse, refl, ◌∙◌, rules, arith}
use Rattle.std.specs.Iterator.Adapters.{rev_steps}
use Rattle.std.specs.Slice.Iter.{iter_steps_back}
use Rattle.std.proofs.lemmas.Fn.{fold_over}
use Rattle.std.proofs.lemmas.Iterator.Adapters.{YieldsList-from_rev_slice}
use Rattle.cipher.specs.declared.dea.permutations.TheConstants.{EXCHANGES}
use Rattle.cipher.specs.Exchanges.{all_exchanged}
use Rattle.cipher.proofs.Exchanges.{exchanged_push, ip_inverse_exchanged, serves_each}
use Rattle.cipher.proofs.dea.permutations.permute_back.Goals as goal

pub fold-requires-clause-callable : goal.fold-requires-clause-callable
fold-requires-clause-callable c = serves_each (cc) (λ q e small. search rules)

pub returns : goal.returns
returns c =
    let block : ℕ = c.args.block in
    let folded : c.fold.result ≡ all_exchanged (reverse EXCHANGES) block =
    fold_over (rev_steps iter_steps_back) (λ y. y.now) _ (λ es x. x ≡ all_exchanged es block) _
    (λ es x e y f called so_far. let more = exchanged_push es e.now block in search rules)
    c.rev-exchanges.result (reverse EXCHANGES) _ _ (YieldsList-from_rev_slice {s = c.rev-exchanges.result} EXCHANGES (cc)).runs refl c.fold.ensures.ran in
    folded ∙ ip_inverse_exchanged block (omega arith)
