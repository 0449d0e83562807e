use Rattle.std.proofs.Common.{◌≡◌, ℕ, ◌+◌, ◌-◌, ◌*◌, ◌/◌, ◌%◌, ◌^◌, ◌<◌, List, ◌++◌, length, get_or, drop, sym, refl, ap, ◌∙◌, ap₂, subst, mod-lt, zero-lt-suc, mul-one, div-one, arith, rules, length-append, length-drop}
use lib.Bits.{bit_and, bit_xor}
use Rattle.std.proofs.lemmas.List.{get_or_append_left, get_or-drop, drop_at, drop-drop}
use Rattle.cipher.specs.Words.{select}
use Rattle.cipher.specs.Rounds.{f, substituted, permuted, expanded}
use Rattle.cipher.proofs.Combined.{combined_at, permuted_more, six_is}
use Rattle.cipher.proofs.dea.Dea.mix.Goals as goal

pub loop-i-init : goal.loop-i-init
unfolding substituted permuted select
loop-i-init c =
    let none : c.into_iter-i-iterator.result.count ≡ 0 = search rules in
    let all : c.into_iter-i-iterator.result.iter.rest.now ≡ c.args.self.now.substitution = search rules in
    record {
      rest = all ∙ ap (λ (n : ℕ). drop (n * 64) c.args.self.now.substitution) (sym none);
      size = search rules;
      few = search rules;
      mixed =
          subst (λ (n : ℕ). 0 ≡ permuted (substituted n (bit_xor (expanded c.args.right) c.args.key / 2 ^ (48 - 6 * n)) * 2 ^ (4 * (8 - n)))) (sym none) refl;
    }

-- the next 64 words of the table are box i's
taken : (table left piece rest : List ℕ) (i : ℕ) → left ≡ drop (i * 64) table → left ≡ piece ++ rest → length piece ≡ 64
    → ((v : ℕ) → v < 64 → get_or piece v 0 ≡ get_or table (i * 64 + v) 0) × (rest ≡ drop ((i + 1) * 64) table)
taken table left piece rest i e split long =
    let next : i * 64 + 64 ≡ (i + 1) * 64 = omega arith in (
      λ v h. sym (get_or_append_left piece rest 0 v (omega arith)) ∙ ap (λ l. get_or l v 0) (sym split ∙ e) ∙ get_or-drop (i * 64) table v 0,
      sym (drop_at piece rest 64 long) ∙ ap (drop 64) (sym split ∙ e) ∙ drop-drop 64 (i * 64) table ∙ ap (λ (n : ℕ). drop n table) next,
    )

pub loop-i-preserved : goal.loop-i-preserved
loop-i-preserved c =
    let i : ℕ = c.in-Some.i in
    let r : ℕ = c.args.right in
    let k : ℕ = c.args.key in
    let table : List ℕ = c.args.self.now.substitution in
    let left : List ℕ = c.loop-i.i-iterator.iter.rest.now in
    let size : c.loop-i.i-iterator.iter.size ≡ 64 = c.loop-i.invariant.size in
    let here : c.loop-i.i-iterator.count ≡ i = search rules in
    let next : c.next.new.self.count ≡ i + 1 = search rules in
    let stays : c.next.new.self.iter.size ≡ c.loop-i.i-iterator.iter.size = search rules in
    let from : left ≡ drop (i * 64) table = c.loop-i.invariant.rest ∙ ap (λ (n : ℕ). drop (n * 64) table) here in
    let split : left ≡ c.in-Some.answers.now ++ c.next.new.self.iter.rest.now = search rules in
    let whole : length c.in-Some.answers.now ≡ c.loop-i.i-iterator.iter.size = search rules in
    let len : length table ≡ 512 = search rules in
    let hi : i < 8 = omega (arith, ap length from, ap length split, length-append c.in-Some.answers.now c.next.new.self.iter.rest.now, length-drop (i * 64) table) in
    let hr : r < 2 ^ 32 = omega arith in
    let x : ℕ = bit_xor (expanded r) k in
    let v : ℕ = x / 2 ^ (42 - 6 * i) % 64 in
    let hv : v < 64 = mod-lt (x / 2 ^ (42 - 6 * i)) (zero-lt-suc 63) in
    let cut = taken table left c.in-Some.answers.now c.next.new.self.iter.rest.now i from split (whole ∙ size) in
    let six : bit_and (bit_xor (c.window-bits.result / 2 ^ (28 - 4 * i)) (k / 2 ^ (42 - 6 * i))) 63 ≡ v =
    ap (λ (w : ℕ). bit_and (bit_xor (w / 2 ^ (28 - 4 * i)) (k / 2 ^ (42 - 6 * i))) 63) c.window-bits.ensures ∙ six_is i r k hi hr in
    let so_far : ℕ → ℕ = λ n. permuted (substituted n (x / 2 ^ (48 - 6 * n)) * 2 ^ (4 * (8 - n))) in
    record {
      rest = cut.1 ∙ ap (λ (n : ℕ). drop (n * 64) table) (sym next);
      size = stays ∙ size;
      few = omega arith;
      mixed =
          ap₂ bit_xor (c.loop-i.invariant.mixed ∙ ap so_far here)
          (ap (λ (v : ℕ). get_or c.in-Some.answers.now v 0) six ∙ cut.0 v hv ∙ ap (λ t. get_or t (i * 64 + v) 0) c.args.self.now.substitutes ∙ combined_at i v hi hv)
          ∙ permuted_more i x hi ∙ ap so_far (sym next);
    }

pub returns : goal.returns
unfolding f
returns c =
    let x : ℕ = bit_xor (expanded c.args.right) c.args.key in
    let left : List ℕ = c.loop-i.i-iterator.iter.rest.now in
    let short : length left < c.loop-i.i-iterator.iter.size = search rules in
    let is : c.loop-i.i-iterator.iter.size ≡ 64 = c.loop-i.invariant.size in
    let len : length c.args.self.now.substitution ≡ 512 = search rules in
    let e : c.loop-i.i-iterator.count ≡ 8 = omega (arith, ap length c.loop-i.invariant.rest, length-drop (c.loop-i.i-iterator.count * 64) c.args.self.now.substitution) in
    c.loop-i.invariant.mixed
    ∙ ap (λ (i : ℕ). permuted (substituted i (x / 2 ^ (48 - 6 * i)) * 2 ^ (4 * (8 - i)))) e
    ∙ ap permuted (mul-one (substituted 8 (x / 1)) ∙ ap (substituted 8) (div-one x))
