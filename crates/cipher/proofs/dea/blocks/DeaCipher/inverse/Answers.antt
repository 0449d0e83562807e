use Rattle.std.proofs.Common.{◌≡◌, ℕ, List, reverse, refl, ap, ◌∙◌, rules}
use Rattle.std.specs.Iterator.Adapters.{rev_steps}
use Rattle.std.specs.Slice.Iter.{iter_steps_back}
use Rattle.std.proofs.lemmas.Fn.{fold_over}
use Rattle.std.proofs.lemmas.Iterator.Adapters.{YieldsList-from_rev_slice}
use Rattle.cipher.specs.Rounds.{under, ip_inverse, crossed, rounds}
use Rattle.cipher.specs.Feistel.{rounds_push}
use Rattle.cipher.proofs.dea.blocks.DeaCipher.inverse.Goals as goal

pub returns : goal.returns
unfolding under
returns c =
    let ks : List ℕ = c.args.self.now.round_keys in
    let first : ℕ × ℕ = c.enter.result in
    let folded : c.fold.result ≡ rounds (reverse ks) first =
    fold_over (rev_steps iter_steps_back) (λ y. y.now) _ (λ ys p. p ≡ rounds ys first) _
    (λ ys p k q f called so_far. let more = rounds_push ys k.now first in search rules)
    c.rev-keys.result _ _ _ (YieldsList-from_rev_slice ks (cc)).runs refl c.fold.ensures.ran in
    c.leave.ensures ∙ ap (λ p. ip_inverse (crossed p)) (folded ∙ ap (rounds (reverse ks)) c.enter.ensures)
