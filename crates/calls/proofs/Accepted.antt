-- What an answer with units tells of its call.
use Rattle.std.proofs.Common.{◌≡◌, ℕ, zero, suc, ◌+◌, ◌≤◌, Bool, true, false, cond, ltb, List, [], ◌∷◌, length, Some, None, Option, refl, arith}
use Rattle.std.proofs.lemmas.Bool.{ltb-false}
use Rattle.std.proofs.lemmas.Bool.Decides.{nat_tests}
use Rattle.refusals.specs.declared.Refusal.{Refusal}
use Rattle.modes.specs.Values.{Units}
use Rattle.calls.specs.Limits.{unit_limit}
use Rattle.calls.specs.Calls.{gave, refused}
use Rattle.modes.specs.Widths.{first_wide}
use Rattle.calls.specs.Due.{refusal_to_feed, refusal_to_drain}

-- units among which no wide one is found
pub none_wide : (w i : ℕ) (us : List ℕ) → first_wide w i us ≡ None → Units w us
none_wide w i [] e k l = absurd (omega arith)
none_wide w i (u ∷ us) e zero l = grind (arith, nat_tests)
none_wide w i (u ∷ us) e (suc k) l = let rest : first_wide w (i + 1) us ≡ None = grind (arith, nat_tests) in none_wide w (i + 1) us rest k (omega arith)

-- a feed that was not refused
pub record Accepted (width count : ℕ) (us hs due : List ℕ) : Type 0 where
  pub narrow : Units width us
  pub few : count + length us ≤ unit_limit
  pub gives : hs ≡ due

pub feed_accepted : (in_engine width count : ℕ) (us : List ℕ) (room : ℕ) (hs due : List ℕ)
    → gave hs ≡ refusal_to_feed in_engine width count us room (gave due) → Accepted width count us hs due
feed_accepted in_engine width count us room hs due e =
    let p = passes (ltb room (in_engine + length us)) (first_wide width 0 us) (ltb unit_limit (count + length us)) _ _ _ e in
    record { narrow = none_wide width 0 us p.0; few = ltb-false _ _ p.1; gives = p.2 }
  where
    passes : (small : Bool) (wide : Option ℕ) (many : Bool) (a b : Refusal) (at : ℕ → Refusal)
        → gave hs ≡ cond small (refused a) (elim wide [ Some i ↦ refused (at i) | None ↦ cond many (refused b) (gave due) ])
        → (wide ≡ None) × (many ≡ false) × (hs ≡ due)
    passes true wide many a b at e = cc
    passes false (Some i) many a b at e = cc
    passes false None true a b at e = cc
    passes false None false a b at e = (refl, refl, cc)

pub drain_gives : (in_engine room : ℕ) (hs due : List ℕ) → gave hs ≡ refusal_to_drain in_engine room (gave due) → hs ≡ due
drain_gives in_engine room hs due e = grind (arith, nat_tests)
