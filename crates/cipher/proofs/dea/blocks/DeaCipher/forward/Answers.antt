use Rattle.std.proofs.Common.{◌≡◌, ℕ, List, refl, ap, ◌∙◌, rules}
use Rattle.std.proofs.lemmas.Fn.{fold_over, fronts}
use Rattle.std.proofs.lemmas.Iterator.{YieldsList-from_slice}
use Rattle.cipher.specs.Rounds.{under, ip_inverse, crossed, rounds}
use Rattle.cipher.specs.Feistel.{rounds_push}
use Rattle.cipher.proofs.dea.blocks.DeaCipher.forward.Goals as goal

pub returns : goal.returns
unfolding under
returns c =
    let ks : List ℕ = c.args.self.now.round_keys in
    let first : ℕ × ℕ = c.enter.result in
    let folded : c.fold.result ≡ rounds ks first =
    fold_over fronts (λ y. y.now) _ (λ ys p. p ≡ rounds ys first) _
    (λ ys p k q f called so_far. let more = rounds_push ys k.now first in search rules)
    c.iter-keys.result _ _ _ (YieldsList-from_slice ks (cc)).runs refl c.fold.ensures.ran in
    c.leave.ensures ∙ ap (λ p. ip_inverse (crossed p)) (folded ∙ ap (rounds ks) c.enter.ensures)
