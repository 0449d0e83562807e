use Rattle.std.proofs.Common.{rules, ◌≡◌, ℕ, sym, ◌∙◌, arith}
use Rattle.std.proofs.lemmas.Bool.Decides.{nat_tests}
use Rattle.cipher.specs.Functions.{triple_forward_of, triple_inverse_of}
use Rattle.test_exports.specs.Exports.{either}
use Rattle.test_exports.proofs.hervodig_blocks.Goals as goal

forward_at_zero : (inverse : ℕ) (F G : ℕ → ℕ) (b : ℕ) → inverse ≡ 0 → either inverse F G b ≡ F b
forward_at_zero inverse F G b h = grind (arith, nat_tests)

else_inverse : (inverse : ℕ) (F G : ℕ → ℕ) (b : ℕ) → (inverse ≡ 0 → ⊥) → either inverse F G b ≡ G b
else_inverse inverse F G b h = grind (arith, nat_tests)

pub returns-then-inverse-eq0-clause-after : goal.returns-then-inverse-eq0-clause-after
returns-then-inverse-eq0-clause-after c =
    let F = triple_forward_of c.into_cipher-triple.result in
    let G = triple_inverse_of c.into_cipher-triple.result in
    let h = c.replace_each.ensures (either c.args.inverse F G)
    (λ block made post. let r : made ≡ F block = search rules in r ∙ sym (forward_at_zero c.args.inverse F G block c.if-inverse-eq0.true)) in
    rw (← c.in-Ok.ensures.value, ← c.into_cipher-triple.ensures.forward, ← c.into_cipher-triple.ensures.inverse) h

pub returns-else-inverse-eq0-clause-after : goal.returns-else-inverse-eq0-clause-after
returns-else-inverse-eq0-clause-after c =
    let F = triple_forward_of c.into_cipher-triple.result in
    let G = triple_inverse_of c.into_cipher-triple.result in
    let h = c.replace_each-else-inverse-eq0.ensures (either c.args.inverse F G)
    (λ block made post. let r : made ≡ G block = search rules in r ∙ sym (else_inverse c.args.inverse F G block c.if-inverse-eq0.false)) in
    rw (← c.in-Ok.ensures.value, ← c.into_cipher-triple.ensures.forward, ← c.into_cipher-triple.ensures.inverse) h
