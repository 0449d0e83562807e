-- The schedule of a stretch as it grows.
use Rattle.std.proofs.Common.{◌≡◌, ℕ, zero, suc, ◌+◌, ◌≤◌, List, [], ◌∷◌, Some, None, Option, refl, arith}
use Rattle.std.proofs.lemmas.Bool.Decides.{nat_tests}
use Rattle.modes.specs.Schedule.{cost}
use Rattle.modes.proofs.Entries.{entry_next}
use Rattle.calls.specs.Stretches.{passed, coming, inside, cycles_of}

pub passed_is_cost : (D : ℕ) (δ : Option ℕ) (s : ℕ) → passed D δ s ≡ cost D δ s
passed_is_cost D None zero = refl
passed_is_cost D (Some δ) zero = refl
passed_is_cost D None (suc s) = omega arith
passed_is_cost D (Some δ) (suc s) = omega arith

module _ (D : ℕ) (δ : Option ℕ) where
  passed_next : (s : ℕ) → passed D δ s ≤ passed D δ (suc s)
  passed_next zero = omega arith
  passed_next (suc s) = grind (arith, entry_next D δ s)

  pub passed_more : (s n : ℕ) → passed D δ s ≤ passed D δ (s + n)
  passed_more s zero = grind arith
  passed_more s (suc n) = grind (arith, passed_more s n, passed_next (s + n))

  -- each further unit adds one or none
  coming_more : (t s n : ℕ) → coming D δ t (s + n) ≤ coming D δ t s + n
  coming_more t s zero = grind arith
  coming_more t s (suc n) = let e : s + suc n ≡ suc (s + n) = omega arith in rw e (grind (arith, nat_tests, coming_more t s n))

  -- the later, the fewer are still to come out
  coming_later : (t u s : ℕ) → t ≤ u → coming D δ u s ≤ coming D δ t s
  coming_later t u zero l = omega arith
  coming_later t u (suc s) l = grind (arith, nat_tests, coming_later t u s l)

  pub inside_more : (s n : ℕ) → inside D δ (s + n) ≤ inside D δ s + n
  inside_more s n = omega (arith, coming_more (passed D δ (s + n)) s n, coming_later (passed D δ s) (passed D δ (s + n)) s (passed_more s n))

  coming_most : (t s : ℕ) → coming D δ t s ≤ s
  coming_most t zero = omega arith
  coming_most t (suc s) = grind (arith, nat_tests, coming_most t s)

  pub inside_most : (s : ℕ) → inside D δ s ≤ s
  inside_most s = coming_most (passed D δ s) s

  -- a stretch that is not ended adds its cost
  pub cycles_open : (es : List ℕ) (s : ℕ) → cycles_of D δ es s ≡ cycles_of D δ es 0 + cost D δ s
  cycles_open [] s = omega arith
  cycles_open (e ∷ es) s = omega arith
