-- IP and its inverse as exchanges, known by their values at the powers of two.
use Rattle.std.proofs.Common.{◌≡◌, ℕ, ◌*◌, ◌/◌, ◌%◌, ◌^◌, ◌<◌, List, [], ◌∷◌, ◌++◌, reverse, length, get_or, ltb, Some, Bor, Iter, refl, sym, subst, ap, ◌∙◌}
use Rattle.std.specs.declared.iter.Rev.{Rev}
use Rattle.std.specs.Iterator.{CallableAtEachTurn}
use Rattle.std.specs.Iterator.Adapters.{rev_source, rev_steps}
use Rattle.std.specs.Slice.Iter.{iter_rest, iter_steps_back}
use Rattle.std.proofs.lemmas.Iterator.Adapters.{YieldsList-from_rev_slice}
use Rattle.std.proofs.lemmas.Iterator.Consumers.{YieldsList-turn}
use Rattle.std.proofs.lemmas.Bool.{ltb-true}
use lib.Bits.{bit_and, bit_xor}
use Rattle.cipher.specs.declared.dea.permutations.TheConstants.{EXCHANGES}
use Rattle.cipher.specs.Words.{select}
use Rattle.cipher.specs.Tables.{ip_table, ip_inverse_table}
use Rattle.cipher.specs.Rounds.{ip, ip_inverse}
use Rattle.cipher.specs.Exchanges.{exchanged, all_exchanged}
use Rattle.cipher.proofs.Tests.{below_at}
use Rattle.cipher.proofs.Linear.{Linear, linear_id, linear_xor, linear_after, linear_shr, linear_shl, linear_and, linear_select, linear_same}

linear_exchanged : (s m : ℕ) → Linear (exchanged s m)
unfolding exchanged
linear_exchanged s m =
    let T : ℕ → ℕ = λ x. bit_and (bit_xor (x / 2 ^ s) x) m in
    let lt : Linear T = linear_after (λ x. bit_and x m) (λ x. bit_xor (x / 2 ^ s) x) (linear_and m) (linear_xor (λ x. x / 2 ^ s) (λ x. x) (linear_shr s) linear_id) in
    linear_xor (λ x. bit_xor x (T x)) (λ x. T x * 2 ^ s % 2 ^ 64)
    (linear_xor (λ x. x) T linear_id lt) (linear_after (λ x. x * 2 ^ s % 2 ^ 64) T (linear_shl s) lt)

linear_all : (es : List (ℕ × ℕ)) → Linear (all_exchanged es)
linear_all [] a b = refl
linear_all (e ∷ es) a b = ap (all_exchanged es) (linear_exchanged e.0 e.1 a b) ∙ linear_all es (exchanged e.0 e.1 a) (exchanged e.0 e.1 b)

-- one exchange more
pub exchanged_push : (es : List (ℕ × ℕ)) (e : ℕ × ℕ) (x : ℕ) → all_exchanged (es ++ e ∷ []) x ≡ exchanged e.0 e.1 (all_exchanged es x)
exchanged_push [] e x = refl
exchanged_push (d ∷ es) e x = exchanged_push es e (exchanged d.0 d.1 x)

pub ip_exchanged : (b : ℕ) → b < 2 ^ 64 → all_exchanged EXCHANGES b ≡ ip b
unfolding ip exchanged select
ip_exchanged b h = linear_same (all_exchanged EXCHANGES) ip (linear_all EXCHANGES) (linear_select 64 ip_table) 64 refl b h

pub ip_inverse_exchanged : (b : ℕ) → b < 2 ^ 64 → all_exchanged (reverse EXCHANGES) b ≡ ip_inverse b
unfolding ip_inverse exchanged select
ip_inverse_exchanged b h =
    linear_same (all_exchanged (reverse EXCHANGES)) ip_inverse (linear_all (reverse EXCHANGES)) (linear_select 64 ip_inverse_table) 64 refl b h

distance_small : (k : ℕ) (d : ℕ × ℕ) → k < 5 → (get_or (reverse EXCHANGES) k d).0 < 64
distance_small k d h = ltb-true (get_or (reverse EXCHANGES) k d).0 64 (below_at 5 (λ k. ltb (get_or (reverse EXCHANGES) k d).0 64) refl k h)

-- what may be asked of any distance within a word may be asked of each exchange, from the last to the first
pub serves_each : {P : Type 0} {R : P → Bor (ℕ × ℕ) → P → Type 0} {Q : P → Bor (ℕ × ℕ) → Type 0} {s : Rev (Iter (ℕ × ℕ))} {p : P}
    → iter_rest (rev_source s) ≡ EXCHANGES → ((q : P) (e : Bor (ℕ × ℕ)) → e.now.0 < 64 → Q q e) → CallableAtEachTurn (rev_steps iter_steps_back) R Q s p
serves_each whole serves = record {
  at = λ es t q e u yields folds item.
      let turn = YieldsList-turn (YieldsList-from_rev_slice EXCHANGES whole) es t yields (Some e) u e refl item in
      serves q e (subst (λ (d : ℕ × ℕ). d.0 < 64) (sym turn.1) (distance_small (length es) e.now turn.0));
}
