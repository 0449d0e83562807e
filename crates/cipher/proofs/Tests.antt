-- A test that is computed over a whole table, and what it says of each entry.
use Rattle.std.proofs.Common.{◌≡◌, ℕ, zero, suc, ◌<◌, Bool, true, ◌&&◌, List, [], ◌∷◌, get_or, sym, subst, inl, inr, le_of_suc-le-suc, not-suc-le-zero, eq-or-lt_of_le}
use Rattle.std.proofs.lemmas.Bool.{and_parts}

-- the test passes at each number below n
abbrev pub all_below : ℕ → (ℕ → Bool) → Bool
all_below zero test = true
all_below (suc n) test = test n && all_below n test

pub below_at : (n : ℕ) (test : ℕ → Bool) → all_below n test ≡ true → (k : ℕ) → k < n → test k ≡ true
below_at zero test t k h = absurd (not-suc-le-zero h)
below_at (suc n) test t k h =
    let parts = and_parts (test n) (all_below n test) t in
    elim (eq-or-lt_of_le (le_of_suc-le-suc h))
    [ inl e ↦ subst (λ (j : ℕ). test j ≡ true) (sym e) parts.0 | inr l ↦ below_at n test parts.1 k l ]

-- the test passes at each pair of a number below m and one below n
abbrev pub all_pairs : ℕ → ℕ → (ℕ → ℕ → Bool) → Bool
all_pairs m n test = all_below m (λ i. all_below n (test i))

pub pair_at : (m n : ℕ) (test : ℕ → ℕ → Bool) → all_pairs m n test ≡ true → (i k : ℕ) → i < m → k < n → test i k ≡ true
pair_at m n test t i k hi hk = below_at n (test i) (below_at m (λ i. all_below n (test i)) t i hi) k hk

-- the test passes at each entry
abbrev pub all_of : (ℕ → Bool) → List ℕ → Bool
all_of test [] = true
all_of test (x ∷ xs) = test x && all_of test xs

-- at any place, past the end too if the default passes
pub entry_at : (test : ℕ → Bool) (d : ℕ) → test d ≡ true → (xs : List ℕ) → all_of test xs ≡ true → (k : ℕ) → test (get_or xs k d) ≡ true
entry_at test d td [] t k = td
entry_at test d td (x ∷ xs) t zero = (and_parts (test x) (all_of test xs) t).0
entry_at test d td (x ∷ xs) t (suc k) = entry_at test d td xs (and_parts (test x) (all_of test xs) t).1 k
