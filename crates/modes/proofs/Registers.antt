-- What stands at the distance before a place, and the register of cipher feedback.
use Rattle.std.proofs.Common.{◌≡◌, ℕ, zero, suc, ◌+◌, ◌-◌, ◌*◌, ◌/◌, ◌%◌, ◌^◌, ◌<◌, ◌≤◌, List, length, get_or, sym, ap, ◌∙◌, mod-lt, suc-mul, zero-mul, arith}
use native.Mathlib.Nat.{mod-one, mod-mod}
use Rattle.std.proofs.lemmas.Grind.{common_steps}
use Rattle.std.proofs.lemmas.Bool.Decides.{nat_tests}
use Rattle.std.proofs.lemmas.Nat.{mod-pow-add, mod_low, shr_high, pow_pos}
use Rattle.modes.specs.Bits.{shifted}
use Rattle.modes.specs.Values.{Units}
use Rattle.modes.specs.Results.{before, register}

pub before_early : (ivs xs : List ℕ) (i : ℕ) → i < length ivs → before ivs xs i ≡ get_or ivs i 0
before_early ivs xs i h = grind (arith, common_steps)

pub before_late : (ivs xs : List ℕ) (i j : ℕ) → length ivs + j ≡ i → before ivs xs i ≡ get_or xs j 0
before_late ivs xs i j h = grind (arith, common_steps)

-- it sees one place of the list
pub before_same : (ivs xs ys : List ℕ) (i : ℕ) → ((j : ℕ) → length ivs + j ≡ i → get_or xs j 0 ≡ get_or ys j 0) → before ivs xs i ≡ before ivs ys i
before_same ivs xs ys i h = grind (arith, common_steps)

pub before_below : (w : ℕ) (ivs xs : List ℕ) (i : ℕ) → Units w ivs → Units w xs → i < length ivs + length xs → before ivs xs i < 2 ^ w
before_below w ivs xs i hi hx l = grind (arith, common_steps)

-- the register

pub register_early : (w : ℕ) (ivs xs : List ℕ) (i : ℕ) → i < length ivs → register w ivs xs i ≡ get_or ivs i 0
register_early w ivs xs zero l = grind (arith, common_steps)
register_early w ivs xs (suc i) l = grind (arith, common_steps, nat_tests)

pub register_late : (w : ℕ) (ivs xs : List ℕ) (i : ℕ) → length ivs ≤ suc i
    → register w ivs xs (suc i) ≡ shifted w (register w ivs xs i) (before ivs xs (suc i))
register_late w ivs xs i l = grind (arith, nat_tests)

-- it sees the places up to the distance before its own
pub register_same : (w : ℕ) (ivs xs ys : List ℕ) (i : ℕ) → ((j : ℕ) → length ivs + j ≤ i → get_or xs j 0 ≡ get_or ys j 0)
    → register w ivs xs i ≡ register w ivs ys i
register_same w ivs xs ys zero h = before_same ivs xs ys 0 (λ j e. h j (omega arith))
register_same w ivs xs ys (suc i) h =
    let r = register_same w ivs xs ys i (λ j l. h j (omega arith)) in
    let b = before_same ivs xs ys (suc i) (λ j e. h j (omega arith)) in
    cc (r, b)

pub register_below : (w : ℕ) (ivs xs : List ℕ) (i : ℕ) → 0 < length ivs → Units 64 ivs → register w ivs xs i < 2 ^ 64
register_below w ivs xs zero pos h = grind (arith, common_steps)
register_below w ivs xs (suc i) pos h =
    grind (arith, common_steps, nat_tests, mod-lt (register w ivs xs i * 2 ^ w + before ivs xs (suc i)) (pow_pos 64))

-- the low bits of a register are the units that came in last

mod_low_bits : (n m : ℕ) → m ≤ 64 → n % 2 ^ 64 % 2 ^ m ≡ n % 2 ^ m
mod_low_bits n m h =
    grind (arith, mod-pow-add n (64 - m) m, mod_low (n / 2 ^ m % 2 ^ (64 - m)) m (n % 2 ^ m) (mod-lt n (pow_pos m)))

shifted_low : (w r c k : ℕ) → c < 2 ^ w → k + w ≤ 64 → shifted w r c % 2 ^ (k + w) ≡ (r % 2 ^ k) * 2 ^ w + c
shifted_low w r c k h l =
    rw (mod_low_bits (r * 2 ^ w + c) (k + w) l, mod-pow-add (r * 2 ^ w + c) k w, shr_high r w c h, mod_low r w c h)

module _ (w d : ℕ) where
  -- one more unit in the low bits
  low_more : (ivs xs : List ℕ) (a k : ℕ) → length ivs ≡ suc d → get_or xs (a + k) 0 < 2 ^ w → k * w + w ≤ 64
      → register w ivs xs (d + a + suc k) % 2 ^ (suc k * w) ≡ (register w ivs xs (d + a + k) % 2 ^ (k * w)) * 2 ^ w + get_or xs (a + k) 0
  low_more ivs xs a k len small l =
      let i : d + a + suc k ≡ suc (d + a + k) = omega arith in
      let e : length ivs + (a + k) ≡ suc (d + a + k) = omega arith in
      ap (λ x. register w ivs xs x % 2 ^ (suc k * w)) i ∙ ap (λ x. register w ivs xs (suc (d + a + k)) % 2 ^ x) (suc-mul k w)
      ∙ ap (λ x. x % 2 ^ (k * w + w))
      (register_late w ivs xs (d + a + k) (omega arith) ∙ ap (shifted w (register w ivs xs (d + a + k))) (before_late ivs xs (suc (d + a + k)) (a + k) e))
      ∙ shifted_low w (register w ivs xs (d + a + k)) (get_or xs (a + k) 0) (k * w) small l

  module _ (ivs ivs' xs ys : List ℕ) (len : length ivs ≡ suc d) (len' : length ivs' ≡ suc d) (a b : ℕ) where
    low_same : (k : ℕ) → ((t : ℕ) → t < k → (get_or xs (a + t) 0 ≡ get_or ys (b + t) 0) × (get_or ys (b + t) 0 < 2 ^ w)) → k * w ≤ 64
        → register w ivs xs (d + a + k) % 2 ^ (k * w) ≡ register w ivs' ys (d + b + k) % 2 ^ (k * w)
    low_same zero h l =
        let z : (x : ℕ) → x % 2 ^ (0 * w) ≡ 0 = λ x. ap (λ e. x % 2 ^ e) (zero-mul w) ∙ mod-one x in
        z (register w ivs xs (d + a + 0)) ∙ sym (z (register w ivs' ys (d + b + 0)))
    low_same (suc k) h l =
        let lw : k * w + w ≤ 64 = omega (arith, suc-mul k w) in
        let ih = low_same k (λ t q. h t (omega arith)) (omega arith) in
        let hk = h k (omega arith) in
        low_more ivs xs a k len (rw hk.0 hk.1) lw
        ∙ ap (λ x. x * 2 ^ w + get_or xs (a + k) 0) ih ∙ ap (λ x. register w ivs' ys (d + b + k) % 2 ^ (k * w) * 2 ^ w + x) hk.0
        ∙ sym (low_more ivs' ys b k len' hk.1 lw)

    -- as many units in a row as the register holds are the whole register
    pub register_whole : (q : ℕ) → suc q * w ≡ 64 → ((t : ℕ) → t < suc q → (get_or xs (a + t) 0 ≡ get_or ys (b + t) 0) × (get_or ys (b + t) 0 < 2 ^ w))
        → register w ivs xs (d + a + suc q) ≡ register w ivs' ys (d + b + suc q)
    register_whole q m h =
        let p = low_same (suc q) h (omega arith) in
        let whole : (jvs zs : List ℕ) (c : ℕ) → length jvs ≡ suc d → register w jvs zs (d + c + suc q) ≡ register w jvs zs (d + c + suc q) % 2 ^ (suc q * w) =
        λ jvs zs c lj.
        let i : d + c + suc q ≡ suc (d + c + q) = omega arith in
        let late = register_late w jvs zs (d + c + q) (omega arith) in
        ap (register w jvs zs) i ∙ late ∙ sym (mod-mod (register w jvs zs (d + c + q) * 2 ^ w + before jvs zs (suc (d + c + q))) (2 ^ 64))
        ∙ ap (λ x. x % 2 ^ 64) (sym late) ∙ ap (λ x. register w jvs zs x % 2 ^ 64) (sym i) ∙ ap (λ x. register w jvs zs (d + c + suc q) % 2 ^ x) (sym m) in
        whole ivs xs a len ∙ p ∙ sym (whole ivs' ys b len')

-- a unit of a whole block is the whole register
pub register_full : (ivs xs : List ℕ) (d i : ℕ) → 0 < length ivs → length ivs + d ≡ i → get_or xs d 0 < 2 ^ 64 → register 64 ivs xs i ≡ get_or xs d 0
register_full ivs xs d zero pos e h = absurd (omega arith)
register_full ivs xs d (suc i) pos e h =
    register_late 64 ivs xs i (omega arith)
    ∙ ap (shifted 64 (register 64 ivs xs i)) (before_late ivs xs (suc i) d e)
    ∙ mod_low (register 64 ivs xs i) 64 (get_or xs d 0) h
