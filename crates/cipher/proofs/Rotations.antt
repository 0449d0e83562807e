-- Rotations of 28 bits.
use Rattle.std.proofs.Common.{◌≡◌, ℕ, ◌+◌, ◌-◌, ◌*◌, ◌/◌, ◌%◌, ◌^◌, ◌<◌, ◌≤◌, sym, ap, ◌∙◌, subst, ap₂, add-zero, mod-lt, arith, pow_pos, pow-add, shl_exact, shr_lt}
use native.Mathlib.Nat.{mul-mod_left}
use lib.Arith.{digits_lt}
use lib.Bits.{bit_and, bit_or, and_mask, or_shifted}
use lib.Pow.{mod-pow-add, shl-shr}
use Rattle.cipher.specs.KeySchedule.{rotated}

-- the bits that stay, s places higher
kept : (s c : ℕ) → s ≤ 28 → c * 2 ^ s % 2 ^ 28 ≡ c % 2 ^ (28 - s) * 2 ^ s
kept s c h =
    let e : 28 ≡ 28 - s + s = omega arith in
    ap (λ (k : ℕ). c * 2 ^ s % 2 ^ k) e ∙ mod-pow-add (c * 2 ^ s) (28 - s) s
    ∙ ap₂ (λ (x y : ℕ). x % 2 ^ (28 - s) * 2 ^ s + y) (shl-shr c s) (mul-mod_left c (2 ^ s))
    ∙ add-zero (c % 2 ^ (28 - s) * 2 ^ s)

-- the bits that go round
carried_lt : (s c : ℕ) → s ≤ 28 → c < 2 ^ 28 → c / 2 ^ (28 - s) < 2 ^ s
carried_lt s c h small =
    let e : 28 ≡ s + (28 - s) = omega arith in
    shr_lt s (28 - s) (subst (λ (k : ℕ). c < 2 ^ k) e small)

pub rotated_lt : (s c : ℕ) → s ≤ 28 → c < 2 ^ 28 → rotated s c < 2 ^ 28
unfolding rotated
rotated_lt s c h small =
    let e : 28 - s + s ≡ 28 = omega arith in
    let lt : c % 2 ^ (28 - s) * 2 ^ s + c / 2 ^ (28 - s) < 2 ^ (28 - s) * 2 ^ s = digits_lt (mod-lt c (pow_pos (28 - s))) (carried_lt s c h small) in
    subst (λ (x : ℕ). x + c / 2 ^ (28 - s) < 2 ^ 28) (sym (kept s c h))
    (subst (λ (m : ℕ). c % 2 ^ (28 - s) * 2 ^ s + c / 2 ^ (28 - s) < m) (sym (pow-add 2 (28 - s) s) ∙ ap (λ (k : ℕ). 2 ^ k) e) lt)

-- in machine words of 32 bits
pub rotated_is : (s c : ℕ) → s ≤ 4 → c < 2 ^ 28 → bit_or (bit_and (c * 2 ^ s % 2 ^ 32) 0xfff_ffff) (c / 2 ^ (28 - s)) ≡ rotated s c
unfolding rotated
rotated_is s c h small =
    let g : s ≤ 28 = omega arith in
    let room : 28 + s ≤ 32 = omega arith in
    let whole : bit_and (c * 2 ^ s % 2 ^ 32) 0xfff_ffff ≡ c * 2 ^ s % 2 ^ 28 =
    ap (λ (x : ℕ). bit_and x 0xfff_ffff) (shl_exact 28 s 32 small room) ∙ and_mask (c * 2 ^ s) 28 in
    ap (λ (x : ℕ). bit_or x (c / 2 ^ (28 - s))) (whole ∙ kept s c g)
    ∙ or_shifted (c % 2 ^ (28 - s)) s (c / 2 ^ (28 - s)) (carried_lt s c g small)
    ∙ ap (λ (x : ℕ). x + c / 2 ^ (28 - s)) (sym (kept s c g))
