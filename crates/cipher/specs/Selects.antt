-- Laws of a selection of bits.
use Rattle.std.specs.Prelude.{◌≡◌, ℕ, zero, suc, ◌+◌, ◌-◌, ◌*◌, ◌/◌, ◌%◌, ◌^◌, ◌<◌, ◌≤◌, true, ◌&&◌, List, [], ◌∷◌, ◌++◌, length, bit_and, bit_or, nat_le, slice_index, refl}
use Rattle.std.proofs.Common.{sym, ap, ap₂, subst, ◌∙◌, mul_comm, mul_assoc, pow-suc, mod-lt, mod-eq_of_lt, zero-lt-suc, not-suc-le-zero, le_of_suc-le-suc, le_refl, add-one, one-add, arith}
use Rattle.std.proofs.Math.Nat.{mod-one}
use Rattle.std.proofs.Math.Arith.{digits_lt, sub-sub_self}
use Rattle.std.proofs.lemmas.Nat.{or_shifted, and_mask, mod-pow-add}
use Rattle.std.proofs.Math.Pow.{high, low, field, mod-mod-pow}
use Rattle.std.proofs.lemmas.List.{length_push}
use Rattle.std.proofs.lemmas.Bool.{and_parts, leb-true}
use Rattle.cipher.specs.Words.{bit, select, places}

pub bit_lt : (w n p : ℕ) → bit w n p < 2
bit_lt w n p = mod-lt (n / 2 ^ (w - p)) (zero-lt-suc 1)

pub select_lt : (w : ℕ) (ps : List ℕ) (n : ℕ) → select w ps n < 2 ^ length ps
unfolding select
select_lt w [] n = zero-lt-suc 0
select_lt w (p ∷ ps) n =
    let h : bit w n p * 2 ^ length ps + select w ps n < 2 * 2 ^ length ps = digits_lt (bit_lt w n p) (select_lt w ps n) in
    subst (λ (m : ℕ). select w (p ∷ ps) n < m) (mul_comm 2 (2 ^ length ps) ∙ sym (pow-suc 2 (length ps))) h

-- one place more at the end of the table
pub select_push : (w : ℕ) (ps : List ℕ) (p n : ℕ) → select w (ps ++ p ∷ []) n ≡ select w ps n * 2 + bit w n p
unfolding select
select_push w [] p n = omega arith
select_push w (q ∷ qs) p n =
    ap₂ (λ (k s : ℕ). bit w n q * 2 ^ k + s) (length_push qs p ∙ add-one (length qs)) (select_push w qs p n)
    ∙ omega (arith, ap (λ (k : ℕ). bit w n q * k) (pow-suc 2 (length qs)), mul_assoc (bit w n q) (2 ^ length qs) 2)

-- the same in a machine word that has room for one bit more
pub push_bit : (r m : ℕ) → r < 2 ^ 63 → bit_or (r * 2 % 2 ^ 64) (bit_and m 1) ≡ r * 2 + m % 2
push_bit r m h =
    let whole : r * 2 % 2 ^ 64 ≡ r * 2 = mod-eq_of_lt (omega arith) in
    ap₂ bit_or whole (and_mask m 1) ∙ or_shifted r 1 (m % 2) (mod-lt m (zero-lt-suc 1))

place_ok : (w p : ℕ) → (nat_le 1 p && nat_le p w) ≡ true → (1 ≤ p) × (p ≤ w)
place_ok w p t = let parts = and_parts (nat_le 1 p) (nat_le p w) t in (leb-true 1 p parts.0, leb-true p w parts.1)

pub place_at : (w : ℕ) (ps : List ℕ) → places w ps ≡ true → (k : ℕ) → k < length ps → (1 ≤ slice_index ps k) × (slice_index ps k ≤ w)
place_at w [] t k h = absurd (not-suc-le-zero h)
place_at w (p ∷ ps) t zero h = place_ok w p (and_parts (nat_le 1 p && nat_le p w) (places w ps) t).0
place_at w (p ∷ ps) t (suc k) h = place_at w ps (and_parts (nat_le 1 p && nat_le p w) (places w ps) t).1 k (le_of_suc-le-suc h)

-- ---- a selection of a selection

-- a bit below the digit at L does not see what stands above
low_bit : (hi L lo m : ℕ) → lo < 2 ^ L → suc m ≤ L → (hi * 2 ^ L + lo) / 2 ^ m % 2 ≡ lo / 2 ^ m % 2
low_bit hi L lo m small h =
    let j : ℕ = L - (1 + m) in
    let e : j + (1 + m) ≡ L = omega arith in
    let x : ℕ = hi * 2 ^ L + lo in
    let cut : x % 2 ^ (1 + m) ≡ lo % 2 ^ (1 + m) =
    sym (mod-mod-pow x j (1 + m)) ∙ ap (λ (k : ℕ). x % 2 ^ k % 2 ^ (1 + m)) e ∙ ap (λ (k : ℕ). k % 2 ^ (1 + m)) (low hi L small) in
    sym (field x 1 m) ∙ ap (λ (k : ℕ). k / 2 ^ m) cut ∙ field lo 1 m

-- bit k of a selection, from 0 and from the highest
select_at : (w : ℕ) (ps : List ℕ) (n k : ℕ) → k < length ps → select w ps n / 2 ^ (length ps - suc k) % 2 ≡ bit w n (slice_index ps k)
unfolding select
select_at w [] n k h = absurd (not-suc-le-zero h)
select_at w (p ∷ ps) n zero h =
    let e : suc (length ps) - 1 ≡ length ps = omega arith in
    ap (λ (k : ℕ). select w (p ∷ ps) n / 2 ^ k % 2) e
    ∙ ap (λ (k : ℕ). k % 2) (high (bit w n p) (length ps) (select_lt w ps n))
    ∙ mod-eq_of_lt (bit_lt w n p)
select_at w (p ∷ ps) n (suc k) h =
    let e : suc (length ps) - suc (suc k) ≡ length ps - suc k = omega arith in
    ap (λ (k : ℕ). select w (p ∷ ps) n / 2 ^ k % 2) e
    ∙ low_bit (bit w n p) (length ps) (select w ps n) (length ps - suc k) (select_lt w ps n) (omega arith)
    ∙ select_at w ps n k (omega arith)

-- the table that takes at once what ps takes from what qs has taken
abbrev through : List ℕ → List ℕ → List ℕ
through qs [] = []
through qs (p ∷ ps) = slice_index qs (p - 1) ∷ through qs ps

length_through : (qs ps : List ℕ) → length (through qs ps) ≡ length ps
length_through qs [] = refl
length_through qs (p ∷ ps) = ap suc (length_through qs ps)

select_select : (w : ℕ) (qs ps : List ℕ) (n : ℕ) → places (length qs) ps ≡ true
    → select (length qs) ps (select w qs n) ≡ select w (through qs ps) n
unfolding select
select_select w qs [] n t = refl
select_select w qs (p ∷ ps) n t =
    let parts = and_parts (nat_le 1 p && nat_le p (length qs)) (places (length qs) ps) t in
    let within = place_ok (length qs) p parts.0 in
    let place : length qs - p ≡ length qs - suc (p - 1) = omega arith in
    let one : bit (length qs) (select w qs n) p ≡ bit w n (slice_index qs (p - 1)) =
    ap (λ (k : ℕ). select w qs n / 2 ^ k % 2) place ∙ select_at w qs n (p - 1) (omega arith) in
    ap₂ (λ (x y : ℕ). x * 2 ^ length ps + y) one (select_select w qs ps n parts.1)
    ∙ ap (λ (k : ℕ). bit w n (slice_index qs (p - 1)) * 2 ^ k + select w (through qs ps) n) (sym (length_through qs ps))

-- the last m places of a word of w bits, in order
abbrev lasts : ℕ → ℕ → List ℕ
lasts w zero = []
lasts w (suc m) = (w - m) ∷ lasts w m

length_lasts : (w m : ℕ) → length (lasts w m) ≡ m
length_lasts w zero = refl
length_lasts w (suc m) = ap suc (length_lasts w m)

select_lasts : (w m n : ℕ) → m ≤ w → select w (lasts w m) n ≡ n % 2 ^ m
unfolding select
select_lasts w zero n h = sym (mod-one n)
select_lasts w (suc m) n h =
    let g : m ≤ w = omega arith in
    ap₂ (λ (x y : ℕ). n / 2 ^ x % 2 * 2 ^ y + select w (lasts w m) n) (sub-sub_self g) (length_lasts w m)
    ∙ ap (λ (x : ℕ). n / 2 ^ m % 2 * 2 ^ m + x) (select_lasts w m n g)
    ∙ sym (mod-pow-add n 1 m) ∙ ap (λ (k : ℕ). n % 2 ^ k) (one-add m)

-- of two tables, the second undoes the first: by one test of the tables
pub select_undone : (w : ℕ) (qs ps : List ℕ) (n : ℕ) → length qs ≡ w → places w ps ≡ true → through qs ps ≡ lasts w w → n < 2 ^ w
    → select w ps (select w qs n) ≡ n
select_undone w qs ps n len ok e h =
    ap (λ (k : ℕ). select k ps (select w qs n)) (sym len)
    ∙ select_select w qs ps n (subst (λ (k : ℕ). places k ps ≡ true) (sym len) ok)
    ∙ ap (λ l. select w l n) e ∙ select_lasts w w n (le_refl w) ∙ mod-eq_of_lt h
