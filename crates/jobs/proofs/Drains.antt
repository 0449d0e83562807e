-- The engine and the cycles of a run that was never drained, and then once.
use Rattle.std.proofs.Common.{◌≡◌, ℕ, ◌+◌, ◌-◌, ◌≤◌, true, List, [], ◌∷◌, length, Some, None, Option, sym, ap, ◌∙◌, ⊎_elim, arith}
use Rattle.std.proofs.lemmas.List.FromFn.{length-map-range_with_len}
use Rattle.engines.specs.Machines.{Machine}
use Rattle.engines.specs.Depths.{the_greatest_depth}
use Rattle.modes.specs.Schedule.{cost}
use Rattle.calls.specs.Stretches.{cycles_of}
use Rattle.calls.specs.Calls.{Calls, gave, drained, stretch, ended}
use Rattle.calls.specs.Due.{distance_in, inside_in, cycles_passed, Follows}
use Rattle.calls.proofs.Counting.{cycles_add_up}
use Rattle.calls.proofs.Stretching.{inside_most}
use Rattle.runs.specs.declared.frame.Frame.{Frame}
use Rattle.runs.specs.Standing.{blocks}
use Rattle.runs.specs.Stands.{Stands}
use Rattle.runs.specs.Whole.{cycles_for}
use Rattle.runs.proofs.Numbers.{in_row_told}
use Rattle.runs.proofs.Emptying.{nothing_inside, drained_count}

blocks_most : (places : List (Option ℕ)) → blocks places ≤ length places
blocks_most [] = omega arith
blocks_most (None ∷ places) = omega (arith, blocks_most places)
blocks_most (Some b ∷ places) = omega (arith, blocks_most places)

-- an engine holds fewer units than the deepest has cycles
pub few_inside : (mach : Machine) (f : Frame) (calls : Calls true) → Stands mach f calls → inside_in mach.depth calls + 1 ≤ the_greatest_depth
few_inside mach f calls stands =
    let sound = stands.at_work.sound in
    let size : length mach.row ≡ mach.depth - 1 = ap length stands.at_work.standing.line ∙ length-map-range_with_len _ _ _ in
    omega (arith, size, sound.deep, sound.shallow, blocks_most mach.row, in_row_told mach f calls stands)

-- a stretch that a drain ended costs what the schedule says, whether or not the drain found something
module _ (F G : ℕ → ℕ) (D : ℕ) (deep : 1 ≤ D) (calls : Calls true) (undrained : ended calls ≡ []) where
  stretch_costs : cycles_passed D calls ≡ cost D (distance_in calls) (stretch calls)
  stretch_costs = cycles_add_up D calls ∙ ap (λ es. cycles_of D (distance_in calls) es (stretch calls)) undrained

  pub cycles_of_drain : (us : List ℕ) → stretch calls ≡ length us → (room : ℕ) (ks : List ℕ) → Follows F G D (drained room (gave ks) calls)
      → cycles_passed D (drained room (gave ks) calls) ≡ cycles_for D (distance_in calls) us
  cycles_of_drain [] one room [] follows = stretch_costs ∙ ap (cost D (distance_in calls)) one
  cycles_of_drain [] one room (k ∷ ks) follows =
      absurd (omega (arith, drained_count F G D calls room (k ∷ ks) follows, inside_most D (distance_in calls) (stretch calls)))
  cycles_of_drain (u ∷ us) one room [] follows =
      let flat : D ≤ 1 =
      ⊎_elim (λ e. absurd (omega arith)) (λ l. l) (nothing_inside D (distance_in calls) (stretch calls) (sym (drained_count F G D calls room [] follows))) in
      omega (arith, stretch_costs, ap (cost D (distance_in calls)) one)
  cycles_of_drain (u ∷ us) one room (k ∷ ks) follows = omega (arith, stretch_costs, ap (cost D (distance_in calls)) one)
