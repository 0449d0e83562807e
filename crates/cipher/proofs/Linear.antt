-- A function that carries ⊕ to ⊕ is known by its values at the powers of two.
use Rattle.std.proofs.Common.{◌≡◌, ℕ, zero, suc, ◌+◌, ◌-◌, ◌*◌, ◌/◌, ◌%◌, ◌^◌, ◌<◌, true, eqb, List, [], ◌∷◌, length, sym, refl, ap, ◌∙◌, subst, ap₂, le_refl, le_of_suc-le-suc, not-suc-le-zero, add-zero, mod-lt, zero-lt-suc, one-mul, div-add-mod', zero-mul, arith, pow_pos, shr_lt}
use lib.Arith.{bin_ind, lt-one}
use lib.Bits.{bit_and, bit_xor, xor_self, xor_assoc, xor_comm, xor_shr, xor_mod, xor_block, xor_shifted, and_shr, and_mod}
use lib.Pow.{split}
use Rattle.std.proofs.lemmas.Bool.{eqb-true}
use Rattle.cipher.specs.Words.{bit, select}
use Rattle.cipher.specs.Selects.{select_lt}
use Rattle.cipher.proofs.Tests.{all_below, below_at}

abbrev pub Linear : (ℕ → ℕ) → Type 0
Linear F = (a b : ℕ) → F (bit_xor a b) ≡ bit_xor (F a) (F b)

linear_zero : (F : ℕ → ℕ) → Linear F → F 0 ≡ 0
linear_zero F l = l 0 0 ∙ xor_self (F 0)

module _ (F G : ℕ → ℕ) (lf : Linear F) (lg : Linear G) where
  same_zero : F 0 ≡ G 0
  same_zero = linear_zero F lf ∙ sym (linear_zero G lg)

  same_digit : (v q : ℕ) → q < 2 → F (2 ^ v) ≡ G (2 ^ v) → F (q * 2 ^ v) ≡ G (q * 2 ^ v)
  same_digit v zero h e = ap F (zero-mul (2 ^ v)) ∙ same_zero ∙ ap G (sym (zero-mul (2 ^ v)))
  same_digit v (suc zero) h e = ap F (one-mul (2 ^ v)) ∙ e ∙ ap G (sym (one-mul (2 ^ v)))
  same_digit v (suc (suc q)) h e = absurd (not-suc-le-zero (le_of_suc-le-suc (le_of_suc-le-suc h)))

  same_below : (w : ℕ) → ((j : ℕ) → j < w → F (2 ^ j) ≡ G (2 ^ j)) → (n : ℕ) → n < 2 ^ w → F n ≡ G n
  same_below zero e n h = ap F (lt-one h) ∙ same_zero ∙ ap G (sym (lt-one h))
  same_below (suc v) e n h =
      let q : ℕ = n / 2 ^ v in
      let r : ℕ = n % 2 ^ v in
      let hr : r < 2 ^ v = mod-lt n (pow_pos v) in
      let up : suc v ≡ 1 + v = omega arith in
      let hq : q < 2 = shr_lt 1 v (subst (λ (k : ℕ). n < 2 ^ k) up h) in
      let parts : n ≡ bit_xor (q * 2 ^ v) r = sym (split n v) ∙ sym (xor_shifted q v r hr) in
      ap F parts ∙ lf (q * 2 ^ v) r
      ∙ ap₂ bit_xor (same_digit v q hq (e v (le_refl (suc v)))) (same_below v (λ j k. e j (omega arith)) r hr)
      ∙ sym (lg (q * 2 ^ v) r) ∙ ap G (sym parts)

  -- two linear functions are the same if they agree at the powers of two: by one test
  pub linear_same : (w : ℕ) → all_below w (λ j. eqb (F (2 ^ j)) (G (2 ^ j))) ≡ true → (n : ℕ) → n < 2 ^ w → F n ≡ G n
  linear_same w t = same_below w (λ j h. eqb-true (F (2 ^ j)) (G (2 ^ j)) (below_at w (λ j. eqb (F (2 ^ j)) (G (2 ^ j))) t j h))

-- ---- what is linear

xor_crosswise : (a b c d : ℕ) → bit_xor (bit_xor a b) (bit_xor c d) ≡ bit_xor (bit_xor a c) (bit_xor b d)
xor_crosswise a b c d =
    xor_assoc a b (bit_xor c d) ∙ ap (bit_xor a) (sym (xor_assoc b c d) ∙ ap (λ (x : ℕ). bit_xor x d) (xor_comm b c) ∙ xor_assoc c b d)
    ∙ sym (xor_assoc a c (bit_xor b d))

pub linear_id : Linear (λ x. x)
linear_id a b = refl

pub linear_xor : (F G : ℕ → ℕ) → Linear F → Linear G → Linear (λ x. bit_xor (F x) (G x))
linear_xor F G lf lg a b = ap₂ bit_xor (lf a b) (lg a b) ∙ xor_crosswise (F a) (F b) (G a) (G b)

pub linear_after : (F G : ℕ → ℕ) → Linear F → Linear G → Linear (λ x. F (G x))
linear_after F G lf lg a b = ap F (lg a b) ∙ lf (G a) (G b)

pub linear_shr : (k : ℕ) → Linear (λ x. x / 2 ^ k)
linear_shr k a b = xor_shr a b k

pub linear_mod : (k : ℕ) → Linear (λ x. x % 2 ^ k)
linear_mod k a b = xor_mod a b k

linear_times : (k : ℕ) → Linear (λ x. x * 2 ^ k)
linear_times k a b =
    sym (add-zero (bit_xor a b * 2 ^ k)) ∙ sym (xor_block k a b 0 0 (pow_pos k) (pow_pos k))
    ∙ ap₂ bit_xor (add-zero (a * 2 ^ k)) (add-zero (b * 2 ^ k))

-- a shift to the left in a word of 64 bits
pub linear_shl : (k : ℕ) → Linear (λ x. x * 2 ^ k % 2 ^ 64)
linear_shl k = linear_after (λ x. x % 2 ^ 64) (λ x. x * 2 ^ k) (linear_mod 64) (linear_times k)

same_halves : {a b : ℕ} → a / 2 ≡ b / 2 → a % 2 ≡ b % 2 → a ≡ b
same_halves {a} {b} hi lo = sym (div-add-mod' a 2) ∙ ap₂ (λ (x y : ℕ). x * 2 + y) hi lo ∙ div-add-mod' b 2

no_digit {ℓ} : {A : Type ℓ} {x : ℕ} → suc (suc x) < 2 → A
no_digit h = absurd (not-suc-le-zero (le_of_suc-le-suc (le_of_suc-le-suc h)))

xor_and_digit : (x y z : ℕ) → x < 2 → y < 2 → z < 2 → bit_and (bit_xor x y) z ≡ bit_xor (bit_and x z) (bit_and y z)
xor_and_digit zero y z hx hy hz = refl
xor_and_digit (suc zero) zero zero hx hy hz = refl
xor_and_digit (suc zero) zero (suc zero) hx hy hz = refl
xor_and_digit (suc zero) zero (suc (suc z)) hx hy hz = no_digit hz
xor_and_digit (suc zero) (suc zero) zero hx hy hz = refl
xor_and_digit (suc zero) (suc zero) (suc zero) hx hy hz = refl
xor_and_digit (suc zero) (suc zero) (suc (suc z)) hx hy hz = no_digit hz
xor_and_digit (suc zero) (suc (suc y)) z hx hy hz = no_digit hy
xor_and_digit (suc (suc x)) y z hx hy hz = no_digit hx

xor_and : (a b m : ℕ) → bit_and (bit_xor a b) m ≡ bit_xor (bit_and a m) (bit_and b m)
xor_and =
    bin_ind (λ (n : ℕ). (b m : ℕ) → bit_and (bit_xor n b) m ≡ bit_xor (bit_and n m) (bit_and b m)) (λ b m. refl)
    (λ n ih b m. same_halves
    (and_shr (bit_xor n b) m 1 ∙ ap (λ (x : ℕ). bit_and x (m / 2)) (xor_shr n b 1) ∙ ih (b / 2) (m / 2)
    ∙ sym (xor_shr (bit_and n m) (bit_and b m) 1 ∙ ap₂ bit_xor (and_shr n m 1) (and_shr b m 1)))
    (and_mod (bit_xor n b) m 1 ∙ ap (λ (x : ℕ). bit_and x (m % 2)) (xor_mod n b 1)
    ∙ xor_and_digit (n % 2) (b % 2) (m % 2) (mod-lt n (zero-lt-suc 1)) (mod-lt b (zero-lt-suc 1)) (mod-lt m (zero-lt-suc 1))
    ∙ sym (xor_mod (bit_and n m) (bit_and b m) 1 ∙ ap₂ bit_xor (and_mod n m 1) (and_mod b m 1))))

pub linear_and : (m : ℕ) → Linear (λ x. bit_and x m)
linear_and m a b = xor_and a b m

linear_bit : (w p : ℕ) → Linear (λ x. bit w x p)
linear_bit w p = linear_after (λ x. x % 2) (λ x. x / 2 ^ (w - p)) (linear_mod 1) (linear_shr (w - p))

pub linear_select : (w : ℕ) (ps : List ℕ) → Linear (select w ps)
unfolding select
linear_select w [] a b = refl
linear_select w (p ∷ ps) a b =
    ap₂ (λ (x y : ℕ). x * 2 ^ length ps + y) (linear_bit w p a b) (linear_select w ps a b)
    ∙ sym (xor_block (length ps) (bit w a p) (bit w b p) (select w ps a) (select w ps b) (select_lt w ps a) (select_lt w ps b))
