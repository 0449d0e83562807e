-- The count of a cartridge, and the cycles of a run, in a list of calls.
use Rattle.std.proofs.Common.{◌≡◌, ℕ, ◌+◌, ◌≤◌, Bool, true, false, [], ◌∷◌, length, drop, sym, refl, ap, ◌∙◌, subst, arith}
use Rattle.std.proofs.lemmas.List.{length-append}
use Rattle.calls.specs.Limits.{unit_limit}
use Rattle.calls.specs.Stretches.{cycles_of}
use Rattle.calls.specs.Calls.{Calls, gave, refused, new, started, fed, drained, closed, taken, stretch, ended, count_told}
use Rattle.calls.specs.Due.{distance_in, width_in, count_in, inside_in, cycles_passed, Follows}
use Rattle.calls.specs.Runs.{run_of, runs_of, all_taken}
use Rattle.calls.proofs.Stretching.{passed_is_cost, passed_more, cycles_open}
use Rattle.calls.proofs.Accepted.{feed_accepted}

-- the cycles that pass are those of the formula
pub cycles_add_up : (D : ℕ) (calls : Calls true) → cycles_passed D calls ≡ cycles_of D (distance_in calls) (ended calls) (stretch calls)
cycles_add_up D (started o way calls) = refl
cycles_add_up D (fed us room (refused e) calls) = cycles_add_up D calls
cycles_add_up D (fed us room (gave hs) calls) =
    let δ = distance_in calls in
    let s = stretch calls in
    let n = s + length us in
    omega (
      arith,
      cycles_add_up D calls,
      passed_more D δ s (length us),
      passed_is_cost D δ s,
      passed_is_cost D δ n,
      cycles_open D δ (ended calls) s,
      cycles_open D δ (ended calls) n,
    )
cycles_add_up D (drained room (refused e) calls) = cycles_add_up D calls
cycles_add_up D (drained room (gave []) calls) = cycles_add_up D calls
cycles_add_up D (drained room (gave (h ∷ hs)) calls) =
    omega (arith, cycles_add_up D calls, cycles_open D (distance_in calls) (ended calls) (stretch calls))

-- the open run is the newest
pub newest_run : (calls : Calls true) → runs_of calls ≡ run_of calls ∷ drop 1 (runs_of calls)
newest_run (started o way calls) = refl
newest_run (fed us room a calls) = refl
newest_run (drained room a calls) = refl

-- how many units the cartridge has taken, by what it told and what an open run took
abbrev pub count_of : (b : Bool) → Calls b → ℕ
count_of true calls = count_in calls
count_of false calls = count_told calls

module _ (F G : ℕ → ℕ) (D : ℕ) where
  pub count_is_sum : {b : Bool} (calls : Calls b) → Follows F G D calls → count_of b calls ≡ all_taken (runs_of calls)
  count_is_sum new f = refl
  count_is_sum (started o way calls) f = omega (arith, count_is_sum calls f)
  count_is_sum (fed us room a calls) f = omega (arith, count_is_sum calls f.1, ap all_taken (newest_run calls))
  count_is_sum (drained room a calls) f = omega (arith, count_is_sum calls f.1, ap all_taken (newest_run calls))
  count_is_sum (closed told calls) f = ap (λ t. t.count) f.0 ∙ count_is_sum calls f.1

  pub count_within : {b : Bool} (calls : Calls b) → Follows F G D calls → count_of b calls ≤ unit_limit
  count_within new f = omega arith
  count_within (started o way calls) f = omega (arith, count_within calls f)
  count_within (fed us room (refused e) calls) f = count_within calls f.1
  count_within (fed us room (gave hs) calls) f =
      omega
      (arith, length-append (taken calls) us, (feed_accepted (inside_in D calls) (width_in calls) (count_in calls) us room hs _ f.0).few)
  count_within (drained room a calls) f = count_within calls f.1
  count_within (closed told calls) f = subst (λ n. n ≤ unit_limit) (sym (ap (λ t. t.count) f.0)) (count_within calls f.1)
