-- A whole run on a new cartridge: two feeds, each with a drain, and the closing.
use Rattle.std.specs.Prelude.{ℕ, ◌+◌, ◌-◌, List, [], ◌∷◌, ◌++◌, length, drop, Ok, Err, Option, Result}
use Rattle.refusals.specs.declared.Refusal.{Refusal}
use Rattle.engines.specs.Machines.{Machine}
use Rattle.modes.specs.declared.way.Way.{Way}
use Rattle.modes.specs.declared.order.Order.{Order}
use Rattle.modes.specs.Schedule.{drained}
use Rattle.modes.specs.Table.{row, distance_of}
use Rattle.modes.specs.Values.{listed}
use Rattle.modes.specs.Results.{results}
use Rattle.calls.specs.Calls.{Answer, gave, refused}
use Rattle.calls.specs.Due.{refusal_to_feed}

-- what is left of it: its answer, the cartridge's count and the output list
pub record Ending : Type 0 where
  pub answer : Result ℕ Refusal
  pub count : ℕ
  pub output : List ℕ

-- a refusal ends it so, else it goes on
abbrev pub unless_refused : Answer → (Refusal → Ending) → Ending → Ending
unless_refused (refused e) ends on = ends e
unless_refused (gave hs) ends on = on

-- which refusal, or none, the units vs meet behind the units us, whose results stand first in the output list xs
abbrev pub refusal_behind : Order → (us vs xs : List ℕ) → Answer
refusal_behind order us vs xs = refusal_to_feed 0 (row order.mode).width (length us) vs (length xs - length us) (gave [])

-- the cycles of a feed and its drain; with no units there are none
abbrev pub cycles_for : ℕ → Option ℕ → List ℕ → ℕ
cycles_for D δ [] = 0
cycles_for D δ (u ∷ us) = drained D δ (length (u ∷ us))

module _ (mach : Machine) (order : Order) (way : Way) where
  -- the run took the units us, and all their results stand first in the output list xs
  abbrev pub ending : (us xs : List ℕ) → Result ℕ Refusal → Ending
  ending us xs answer =
      record {
        answer = answer;
        count = length us;
        output = results mach.forward mach.inverse order.mode way (listed order.values) us (length us) ++ drop (length us) xs;
      }

  abbrev pub cycles_in_two : (first second : List ℕ) → ℕ
  cycles_in_two first second =
      cycles_for mach.depth (distance_of order.mode way) first + cycles_for mach.depth (distance_of order.mode way) second

  abbrev pub in_two : (first second xs : List ℕ) → Ending
  in_two first second xs =
      unless_refused (refusal_behind order [] first xs) (λ e. ending [] xs (Err e))
      (unless_refused (refusal_behind order first second xs) (λ e. ending first xs (Err e))
      (ending (first ++ second) xs (Ok (cycles_in_two first second))))
