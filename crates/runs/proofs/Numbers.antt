-- The numbers of a run that stands for a list of calls.
use Rattle.std.proofs.Common.{◌≡◌, ℕ, zero, suc, ◌+◌, ◌-◌, ◌*◌, ◌/◌, ◌%◌, ◌^◌, ◌<◌, ◌≤◌, true, List, [], ◌∷◌, length, Some, None, Option, ap, ◌∙◌, mod-eq_of_lt, div-le_self, arith}
use Rattle.std.proofs.lemmas.Nat.{mul-le}
use Rattle.std.proofs.lemmas.List.{length-append, length-drop}
use Rattle.engines.specs.Machines.{Machine}
use Rattle.engines.specs.Depths.{the_greatest_depth}
use Rattle.modes.specs.Schedule.{cost}
use Rattle.modes.specs.Table.{row}
use Rattle.modes.specs.Values.{listed}
use Rattle.modes.specs.Results.{results}
use Rattle.modes.proofs.Receiving.{length_results}
use Rattle.calls.specs.Stretches.{passed, cycles_of}
use Rattle.calls.specs.Calls.{Calls, gave, refused, started, fed, drained, order_of, way_of, taken, handed_out, stretch, ended}
use Rattle.calls.specs.Due.{distance_in, width_in, count_in, inside_in, cycles_passed, due_told, Follows}
use Rattle.calls.proofs.Accepted.{drain_gives}
use Rattle.calls.proofs.Counting.{cycles_add_up}
use Rattle.calls.proofs.OpenRun.{balanced}
use Rattle.calls.proofs.Stretching.{cycles_open, inside_most, passed_is_cost}
use Rattle.runs.specs.declared.frame.Frame.{Frame}
use Rattle.runs.specs.Standing.{blocks}
use Rattle.runs.specs.Stands.{Stands, told_by}
use Rattle.runs.proofs.Waits.{inside_waits}
use Rattle.runs.proofs.Pumps.{stretch_within}

-- the cycles of a stretch are among those of its run
pub stretch_passed : (D : ℕ) (calls : Calls true) → passed D (distance_in calls) (stretch calls) ≤ cycles_passed D calls
stretch_passed D calls =
    omega (
      arith,
      cycles_add_up D calls,
      cycles_open D (distance_in calls) (ended calls) (stretch calls),
      passed_is_cost D (distance_in calls) (stretch calls),
    )

-- a run takes at most so many cycles for each unit
abbrev cycles_each : ℕ
cycles_each = 2 * the_greatest_depth + 1

cost_most : (D : ℕ) (δ : Option ℕ) (s : ℕ) → D ≤ the_greatest_depth → cost D δ s ≤ (the_greatest_depth + 1) * s
cost_most D δ zero l = omega arith
cost_most D None (suc s) l = omega arith
cost_most D (Some d) (suc s) l = omega (arith, mul-le (s / d) (D - d) s the_greatest_depth (div-le_self s d) (omega arith))

module _ (F G : ℕ → ℕ) (D : ℕ) (shallow : D ≤ the_greatest_depth) where
  -- a drain that found something ended a stretch that had something
  found : (calls : Calls true) (room : ℕ) (hs : List ℕ) → Follows F G D (drained room (gave hs) calls) → length hs ≤ stretch calls
  found calls room hs f =
      let rs = results F G (order_of calls).mode (way_of calls) (listed (order_of calls).values) (taken calls) (length (taken calls)) in
      omega (
        arith,
        ap length (drain_gives (inside_in D calls) room hs _ f.0),
        length-drop (length (taken calls) - inside_in D calls) rs,
        length_results F G (order_of calls).mode (way_of calls) (listed (order_of calls).values) (taken calls) (length (taken calls)),
        inside_most D (distance_in calls) (stretch calls),
      )

  ended_most : (calls : Calls true) → Follows F G D calls → cycles_of D (distance_in calls) (ended calls) 0 + cycles_each * stretch calls ≤ cycles_each * length (taken calls)
  ended_most (started o way calls) f = omega arith
  ended_most (fed us room (gave hs) calls) f = omega (arith, ended_most calls f.1, length-append (taken calls) us)
  ended_most (fed us room (refused e) calls) f = ended_most calls f.1
  ended_most (drained room (gave []) calls) f = ended_most calls f.1
  ended_most (drained room (gave (h ∷ hs)) calls) f =
      omega (arith, ended_most calls f.1, cost_most D (distance_in calls) (stretch calls) shallow, found calls room (h ∷ hs) f)
  ended_most (drained room (refused e) calls) f = ended_most calls f.1

  cycles_most : (calls : Calls true) → Follows F G D calls → cycles_passed D calls ≤ cycles_each * length (taken calls)
  cycles_most calls f =
      omega (
        arith,
        cycles_add_up D calls,
        cycles_open D (distance_in calls) (ended calls) (stretch calls),
        cost_most D (distance_in calls) (stretch calls) shallow,
        ended_most calls f,
      )

module _ (mach : Machine) (f : Frame) (calls : Calls true) (stands : Stands mach f calls) where
  pub inside_told : length f.pending.items ≡ inside_in mach.depth calls
  inside_told =
      omega (arith, inside_waits mach f calls (taken calls) _ _ _ stands.at_work, inside_most mach.depth (distance_in calls) (stretch calls))

  pub taken_told : f.taken ≡ length (taken calls)
  taken_told = omega (arith, stands.at_work.standing.taken, stretch_within mach f calls stands)

  pub count_told_now : f.before + f.taken ≡ count_in calls
  count_told_now = omega (arith, stands.at_work.before, taken_told)

  pub width_told : (row f.mode).width ≡ width_in calls
  width_told = ap (λ m. (row m).width) stands.at_work.mode

  pub handed_out_told : f.taken - length f.pending.items ≡ length (handed_out calls)
  handed_out_told = omega (arith, inside_told, taken_told, balanced mach.forward mach.inverse mach.depth calls stands.follows)

  pub cycles_told : f.cycles ≡ cycles_passed mach.depth calls
  cycles_told =
      let most = cycles_most mach.forward mach.inverse mach.depth stands.at_work.sound.shallow calls stands.follows in
      let small : cycles_passed mach.depth calls < 2 ^ 64 = omega (arith, taken_told, f.within) in
      let e : cycles_passed mach.depth calls - passed mach.depth (distance_in calls) (stretch calls) + passed mach.depth (distance_in calls) (stretch calls)
      ≡ cycles_passed mach.depth calls = omega (arith, stretch_passed mach.depth calls) in
      stands.at_work.standing.clocked ∙ ap (λ k. k % 2 ^ 64) e ∙ mod-eq_of_lt small

  pub in_row_told : blocks mach.row ≡ inside_in mach.depth calls
  in_row_told = omega (arith, stands.at_work.standing.full, inside_most mach.depth (distance_in calls) (stretch calls))

  -- what a run tells is what its closing is due
  pub told_due : told_by mach f ≡ due_told mach.depth calls
  told_due = cc (taken_told, handed_out_told, inside_told, cycles_told, in_row_told, count_told_now)
