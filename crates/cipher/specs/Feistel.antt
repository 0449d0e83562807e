-- The same rounds with the round keys backwards undo a block's enciphering.
use Rattle.std.specs.Prelude.{◌≡◌, ℕ, ◌^◌, ◌<◌, List, [], ◌∷◌, ◌++◌, reverse, bit_xor, refl}
use Rattle.std.proofs.Common.{sym, ap, ap₂, ◌∙◌, mod-lt, pow_pos, shr_lt}
use mathlib.Core.List.{reverse-cons, reverse-reverse}
use Rattle.std.proofs.Math.Arith.{digits_lt}
use Rattle.std.specs.Int.Bits.{xor_self, xor_assoc, xor_zero_r}
use Rattle.std.proofs.lemmas.Nat.{xor_lt}
use Rattle.std.proofs.Math.Pow.{split, high, low}
use Rattle.cipher.specs.Undoing.{Undo}
use Rattle.cipher.specs.Tables.{ip_table, ip_inverse_table, p_table}
use Rattle.cipher.specs.Rounds.{ip, ip_inverse, expanded, substituted, permuted, f, round, rounds, halves, crossed, under}
use Rattle.cipher.specs.Selects.{select_lt, select_undone}

abbrev swap : ℕ × ℕ → ℕ × ℕ
swap (l, r) = (r, l)

xor_twice : (a b : ℕ) → bit_xor (bit_xor a b) b ≡ a
xor_twice a b = xor_assoc a b b ∙ ap (bit_xor a) (xor_self b) ∙ xor_zero_r a

-- a round undoes itself, with the halves swapped
round_undone : (k : ℕ) (p : ℕ × ℕ) → round k (swap (round k p)) ≡ swap p
round_undone k (l, r) = ap (λ (x : ℕ). (r, x)) (xor_twice l (f r k))

rounds_append : (ks js : List ℕ) (p : ℕ × ℕ) → rounds (ks ++ js) p ≡ rounds js (rounds ks p)
rounds_append [] js p = refl
rounds_append (k ∷ ks) js p = rounds_append ks js (round k p)

-- one round more
pub rounds_push : (ks : List ℕ) (k : ℕ) (p : ℕ × ℕ) → rounds (ks ++ k ∷ []) p ≡ round k (rounds ks p)
rounds_push ks k p = rounds_append ks (k ∷ []) p

rounds_undone : (ks : List ℕ) (p : ℕ × ℕ) → rounds (reverse ks) (swap (rounds ks p)) ≡ swap p
rounds_undone [] p = refl
rounds_undone (k ∷ ks) p =
    ap (λ l. rounds l (swap (rounds ks (round k p)))) (reverse-cons k ks)
    ∙ rounds_push (reverse ks) k (swap (rounds ks (round k p)))
    ∙ ap (round k) (rounds_undone ks (round k p))
    ∙ round_undone k p

-- both halves have 32 bits
abbrev Halves : ℕ × ℕ → Type 0
Halves (l, r) = (l < 2 ^ 32) × (r < 2 ^ 32)

f_lt : (r k : ℕ) → f r k < 2 ^ 32
unfolding f permuted
f_lt r k = select_lt 32 p_table (substituted 8 (bit_xor (expanded r) k))

rounds_halves : (ks : List ℕ) (p : ℕ × ℕ) → Halves p → Halves (rounds ks p)
rounds_halves [] p h = h
rounds_halves (k ∷ ks) (l, r) (hl, hr) = rounds_halves ks (round k (l, r)) (hr, xor_lt 32 l (f r k) hl (f_lt r k))

crossed_lt : (p : ℕ × ℕ) → Halves p → crossed p < 2 ^ 64
crossed_lt (l, r) (hl, hr) = digits_lt hr hl

halves_crossed : (p : ℕ × ℕ) → Halves p → halves (crossed p) ≡ swap p
halves_crossed (l, r) (hl, hr) = ap₂ (λ (x y : ℕ). (x, y)) (high r 32 hl) (low r 32 hl)

ip_inverse_ip : (b : ℕ) → b < 2 ^ 64 → ip_inverse (ip b) ≡ b
unfolding ip ip_inverse
ip_inverse_ip b h = select_undone 64 ip_table ip_inverse_table b refl refl refl h

ip_ip_inverse : (b : ℕ) → b < 2 ^ 64 → ip (ip_inverse b) ≡ b
unfolding ip ip_inverse
ip_ip_inverse b h = select_undone 64 ip_inverse_table ip_table b refl refl refl h

ip_lt : (b : ℕ) → ip b < 2 ^ 64
unfolding ip
ip_lt b = select_lt 64 ip_table b

under_lt : (ks : List ℕ) (b : ℕ) → under ks b < 2 ^ 64
unfolding under ip_inverse
under_lt ks b = select_lt 64 ip_inverse_table (crossed (rounds ks (halves (ip b))))

under_back : (ks : List ℕ) (b : ℕ) → b < 2 ^ 64 → under (reverse ks) (under ks b) ≡ b
unfolding under
under_back ks b h =
    let p : ℕ × ℕ = halves (ip b) in
    let q : ℕ × ℕ = rounds ks p in
    let hq : Halves q = rounds_halves ks p (shr_lt 32 32 (ip_lt b), mod-lt (ip b) (pow_pos 32)) in
    ap (λ (x : ℕ). ip_inverse (crossed (rounds (reverse ks) (halves x)))) (ip_ip_inverse (crossed q) (crossed_lt q hq))
    ∙ ap (λ x. ip_inverse (crossed (rounds (reverse ks) x))) (halves_crossed q hq)
    ∙ ap (λ x. ip_inverse (crossed x)) (rounds_undone ks p)
    ∙ ap ip_inverse (split (ip b) 32)
    ∙ ip_inverse_ip b h

-- any round keys, and the same backwards, undo each other
pub under_undo : (ks : List ℕ) → Undo (under ks) (under (reverse ks))
under_undo ks =
    record {
      back = under_back ks;
      forth = λ b h. ap (λ l. under l (under (reverse ks) b)) (sym (reverse-reverse ks)) ∙ under_back (reverse ks) b h;
      forward_is_block = λ b h. under_lt ks b;
      inverse_is_block = λ b h. under_lt (reverse ks) b;
    }
