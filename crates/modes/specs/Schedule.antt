-- When the units of a stretch enter an engine of depth D, under a distance δ or none. Cycles and places count from 0: what enters in cycle t
-- has t cycles before it.
use Rattle.std.specs.Prelude.{◌≡◌, ℕ, zero, suc, ◌+◌, ◌-◌, ◌*◌, ◌/◌, ◌<◌, ◌≤◌, Some, None, Option, ◌≢◌}

-- the cycle in which place j enters
abbrev pub entry : ℕ → Option ℕ → ℕ → ℕ
entry D None j = j
entry D (Some δ) j = j + j / δ * (D - δ)

-- the cycle in which its result comes out
abbrev pub leaving : ℕ → Option ℕ → ℕ → ℕ
leaving D δ j = entry D δ j + (D - 1)

-- how many cycles a stretch of s units costs
abbrev pub cost : ℕ → Option ℕ → ℕ → ℕ
cost D δ zero = 0
cost D None (suc s) = suc s
cost D (Some δ) (suc s) = suc s + s / δ * (D - δ)

-- how many a drain adds that finds something
abbrev pub drain : ℕ → ℕ
drain D = D - 1

-- how many a stretch costs with the drain that ends it
abbrev pub drained : ℕ → Option ℕ → ℕ → ℕ
drained D δ s = cost D δ s + drain D

-- place j may enter in cycle t: its predecessor entered before, and the result at its distance came out before
pub record MayEnter (D : ℕ) (δ : Option ℕ) (j t : ℕ) : Type 0 where
  pub in_order : (i : ℕ) → i + 1 ≡ j → entry D δ i < t
  pub in_time : (d i : ℕ) → δ ≡ Some d → i + d ≡ j → leaving D δ i < t

-- the rule: each place enters in the first cycle in which it may. A stretch ends as its last unit enters, and a drain as its last result
-- comes out.
pub record Ruled (D : ℕ) (δ : Option ℕ) (j : ℕ) : Type 0 where
  pub may : MayEnter D δ j (entry D δ j)
  pub first : (t : ℕ) → MayEnter D δ j t → entry D δ j ≤ t
  pub ended : cost D δ (j + 1) ≡ entry D δ j + 1
  pub emptied : drained D δ (j + 1) ≡ leaving D δ j + 1

abbrev pub Schedule : Type 0
Schedule = (D : ℕ) (δ : Option ℕ) → 1 ≤ D → (δ ≢ Some 0) → (j : ℕ) → Ruled D δ j
