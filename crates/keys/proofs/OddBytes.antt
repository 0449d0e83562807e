-- Where no byte is even, every byte of a word made of them is odd.
use Rattle.std.proofs.Common.{◌≡◌, ℕ, zero, suc, ◌+◌, ◌-◌, ◌*◌, ◌/◌, ◌%◌, ◌^◌, ◌<◌, cond, eqb, List, [], ◌∷◌, length, get_or, Some, None, Option, sym, ap, ◌∙◌, ap₂, inl, inr, le_of_suc-le-suc, not-suc-le-zero, add-zero, mod-lt, zero-lt-suc, suc-add, zero-add, div-one, arith, shr-shr}
use lib.Count.{ones}
use lib.Pow.{high, low}
use Rattle.std.proofs.lemmas.Bool.{cases_Bool, eqb-false}
use Rattle.cipher.specs.Bytes.{block_at}
use Rattle.keys.specs.Parity.{first_even, OddBytes}

odd_unless_even : (n : ℕ) → (n % 2 ≡ 0 → ⊥) → n % 2 ≡ 1
odd_unless_even n h = let lt : n % 2 < 2 = mod-lt n (zero-lt-suc 1) in omega arith

-- the first byte is odd, if the first even one is not it
head_odd : (i b : ℕ) (bs : List ℕ) → first_even i (b ∷ bs) ≡ None → (ones b % 2 ≡ 1) × (first_even (i + 1) bs ≡ None)
head_odd i b bs e =
    elim (cases_Bool (eqb (ones b % 2) 0)) [
      | inl even ↦
          let here : ◌≡◌ {A = Option ℕ} (Some i) None = sym (ap (λ t. cond t (Some i) (first_even (i + 1) bs)) even) ∙ e in
          let never : ◌≡◌ {A = ℕ} 0 1 = cc in
          absurd (let no : ⊥ = omega arith in no)
      | inr odd ↦
          (odd_unless_even (ones b) (eqb-false (ones b % 2) 0 odd), sym (ap (λ t. cond t (Some i) (first_even (i + 1) bs)) odd) ∙ e)
    ]

-- no byte is even: every byte is odd
pub none_even : (i : ℕ) (bs : List ℕ) → first_even i bs ≡ None → (k : ℕ) → k < length bs → ones (get_or bs k 0) % 2 ≡ 1
none_even i [] e k h = absurd (not-suc-le-zero h)
none_even i (b ∷ bs) e zero h = (head_odd i b bs e).0
none_even i (b ∷ bs) e (suc k) h = none_even (i + 1) bs (head_odd i b bs e).1 k (le_of_suc-le-suc h)

-- the number of the first j bytes from place p on, the highest first
front : List ℕ → ℕ → ℕ → ℕ
front bs p zero = 0
front bs p (suc j) = front bs p j * 256 + get_or bs (p + j) 0

block_is_front : (bs : List ℕ) (p : ℕ) → block_at bs p ≡ front bs p 8
unfolding front
block_is_front bs p = let first : get_or bs (p + 0) 0 ≡ get_or bs p 0 = ap (λ (k : ℕ). get_or bs k 0) (add-zero p) in omega arith

-- without its i lowest bytes
front_shr : (bs : List ℕ) (p : ℕ) → ((k : ℕ) → get_or bs k 0 < 256) → (i j : ℕ) → front bs p (i + j) / 2 ^ (8 * i) ≡ front bs p j
unfolding front
front_shr bs p small zero j = div-one (front bs p (0 + j)) ∙ ap (front bs p) (zero-add j)
front_shr bs p small (suc i) j =
    let e : 8 * suc i ≡ 8 + 8 * i = omega arith in
    ap₂ (λ (n k : ℕ). front bs p n / 2 ^ k) (suc-add i j) e ∙ sym (shr-shr (front bs p (suc (i + j))) 8 (8 * i))
    ∙ ap (λ (x : ℕ). x / 2 ^ (8 * i)) (high (front bs p (i + j)) 8 (small (p + (i + j)))) ∙ front_shr bs p small i j

pub odd_block : (bs : List ℕ) (p : ℕ) → ((k : ℕ) → get_or bs k 0 < 256) → ((k : ℕ) → k < 8 → ones (get_or bs (p + k) 0) % 2 ≡ 1) → OddBytes (block_at bs p)
unfolding front
odd_block bs p small odd i h =
    let k : ℕ = 7 - i in
    let e : 8 ≡ i + suc k = omega arith in
    ap (λ (x : ℕ). ones (x / 2 ^ (8 * i) % 256) % 2) (block_is_front bs p ∙ ap (front bs p) e)
    ∙ ap (λ (x : ℕ). ones (x % 256) % 2) (front_shr bs p small i (suc k))
    ∙ ap (λ (x : ℕ). ones x % 2) (low (front bs p k) 8 (small (p + k))) ∙ odd k (omega arith)
