-- f by the combined table: the window gives each box its six bits, and the permuted answers add up.
use Rattle.std.proofs.Common.{◌≡◌, ℕ, ◌+◌, ◌-◌, ◌*◌, ◌/◌, ◌%◌, ◌^◌, ◌<◌, eqb, get_or, sym, refl, ap, ◌∙◌, ap₂, mul_assoc, add-mul, arith, pow-add, shl_lt}
use lib.Bits.{bit_and, bit_xor, xor_shr, xor_mod, xor_shifted, and_mask}
use Rattle.std.proofs.lemmas.Nat.{div-mul-add, mod-mul-add}
use Rattle.std.proofs.lemmas.List.FromFn.{get_or-map-range_with_len}
use Rattle.cipher.specs.Words.{select}
use Rattle.cipher.specs.Tables.{p_table, e_table}
use Rattle.cipher.specs.Rounds.{s_box, substituted, permuted, expanded}
use Rattle.cipher.specs.Combined.{permuted_answer, combined, window}
use Rattle.cipher.proofs.Tests.{below_at, all_below}
use Rattle.cipher.proofs.Boxes.{s_box_lt, substituted_more}
use Rattle.cipher.proofs.Linear.{Linear, linear_xor, linear_after, linear_shr, linear_mod, linear_shl, linear_and, linear_select, linear_same}

pub combined_at : (i six : ℕ) → i < 8 → six < 64 → get_or combined (i * 64 + six) 0 ≡ permuted_answer i (s_box i six)
unfolding combined
combined_at i six hi hs =
    get_or-map-range_with_len (λ n. permuted_answer (n / 64) (s_box (n / 64) (n % 64))) 0 512 (i * 64 + six) (i * 64 + six) 0 (omega arith) (omega arith)
    ∙ ap₂ (λ (j s : ℕ). permuted_answer j (s_box j s)) (div-mul-add i 64 six hs) (mod-mul-add i 64 six hs)

-- one box more
pub permuted_more : (i x : ℕ) → i < 8
    → bit_xor (permuted (substituted i (x / 2 ^ (48 - 6 * i)) * 2 ^ (4 * (8 - i)))) (permuted_answer i (s_box i (x / 2 ^ (42 - 6 * i) % 64)))
    ≡ permuted (substituted (i + 1) (x / 2 ^ (48 - 6 * (i + 1))) * 2 ^ (4 * (8 - (i + 1))))
unfolding permuted_answer permuted
permuted_more i x h =
    let a : ℕ = substituted i (x / 2 ^ (48 - 6 * i)) in
    let b : ℕ = s_box i (x / 2 ^ (42 - 6 * i) % 64) in
    let m : ℕ = 28 - 4 * i in
    let em : 4 * (8 - i) ≡ 4 + m = omega arith in
    let en : m ≡ 4 * (8 - (i + 1)) = omega arith in
    let low : b * 2 ^ m < 2 ^ (4 + m) = shl_lt 4 m (s_box_lt i (x / 2 ^ (42 - 6 * i) % 64)) in
    let joined : bit_xor (a * 2 ^ (4 + m)) (b * 2 ^ m) ≡ (a * 16 + b) * 2 ^ m =
    xor_shifted a (4 + m) (b * 2 ^ m) low
    ∙ ap (λ (y : ℕ). y + b * 2 ^ m) (ap (λ (y : ℕ). a * y) (pow-add 2 4 m) ∙ sym (mul_assoc a 16 (2 ^ m)))
    ∙ sym (add-mul (a * 16) b (2 ^ m)) in
    ap (λ (k : ℕ). bit_xor (select 32 p_table (a * 2 ^ k)) (select 32 p_table (b * 2 ^ m))) em
    ∙ sym (linear_select 32 p_table (a * 2 ^ (4 + m)) (b * 2 ^ m))
    ∙ ap (select 32 p_table) (joined ∙ ap₂ (λ (y k : ℕ). y * 2 ^ k) (substituted_more i x h) en)

linear_window : Linear window
unfolding window
linear_window =
    linear_xor (λ r. bit_xor (bit_and r 1 * 2 ^ 33 % 2 ^ 64) (r * 2 ^ 1 % 2 ^ 64)) (λ r. r / 2 ^ 31)
    (linear_xor (λ r. bit_and r 1 * 2 ^ 33 % 2 ^ 64) (λ r. r * 2 ^ 1 % 2 ^ 64)
    (linear_after (λ r. r * 2 ^ 33 % 2 ^ 64) (λ r. bit_and r 1) (linear_shl 33) (linear_and 1)) (linear_shl 1))
    (linear_shr 31)

-- six bits of a linear function
linear_six : (k : ℕ) (F : ℕ → ℕ) → Linear F → Linear (λ r. F r / 2 ^ k % 64)
linear_six k F l = linear_after (λ r. r % 2 ^ 6) (λ r. F r / 2 ^ k) (linear_mod 6) (linear_after (λ r. r / 2 ^ k) F (linear_shr k) l)

-- the six bits of box i, from the window and from E
window_six : ℕ → ℕ → ℕ
window_six i r = window r / 2 ^ (28 - 4 * i) % 64

expanded_six : ℕ → ℕ → ℕ
expanded_six i r = expanded r / 2 ^ (42 - 6 * i) % 64

window_is_expanded : (i r : ℕ) → i < 8 → r < 2 ^ 32 → window_six i r ≡ expanded_six i r
unfolding window_six expanded_six expanded select window
window_is_expanded i r hi hr =
    linear_same (window_six i) (expanded_six i) (linear_six (28 - 4 * i) window linear_window) (linear_six (42 - 6 * i) expanded (linear_select 32 e_table)) 32
    (below_at 8 (λ i. all_below 32 (λ j. eqb (window_six i (2 ^ j)) (expanded_six i (2 ^ j)))) refl i hi) r hr

-- with the round key
pub six_is : (i r k : ℕ) → i < 8 → r < 2 ^ 32
    → bit_and (bit_xor (window r / 2 ^ (28 - 4 * i)) (k / 2 ^ (42 - 6 * i))) 63 ≡ bit_xor (expanded r) k / 2 ^ (42 - 6 * i) % 64
unfolding window_six expanded_six
six_is i r k hi hr =
    let w : ℕ = window r / 2 ^ (28 - 4 * i) in
    let e : ℕ = expanded r / 2 ^ (42 - 6 * i) in
    let q : ℕ = k / 2 ^ (42 - 6 * i) in
    and_mask (bit_xor w q) 6 ∙ xor_mod w q 6 ∙ ap (λ (y : ℕ). bit_xor y (q % 64)) (window_is_expanded i r hi hr)
    ∙ sym (xor_mod e q 6) ∙ ap (λ (y : ℕ). y % 64) (sym (xor_shr (expanded r) k (42 - 6 * i)))
