-- What each call is due after the calls before it: a refusal, or the mode's results over all units that the run took, cut by the schedule.
use Rattle.std.specs.Prelude.{◌≡◌, ℕ, ◌+◌, ◌-◌, Bool, true, cond, List, [], ◌∷◌, ◌++◌, length, drop, Some, None, Option, nat_lt}
use Rattle.refusals.specs.declared.Refusal.TheVariants.{OutputLength, UnitWidth, UnitLimit}
use Rattle.modes.specs.Table.{row, distance_of}
use Rattle.modes.specs.Values.{listed}
use Rattle.modes.specs.Widths.{first_wide}
use Rattle.modes.specs.Results.{results}
use Rattle.calls.specs.Limits.{unit_limit}
use Rattle.calls.specs.Stretches.{passed, inside}
use Rattle.calls.specs.Calls.{Answer, gave, refused, Told, Calls, new, started, fed, drained, closed, order_of, way_of, taken, handed_out, stretch, count_before}

-- the distance of the open run, its width, its count now, and how many units are in the engine
abbrev pub distance_in : Calls true → Option ℕ
distance_in calls = distance_of (order_of calls).mode (way_of calls)

abbrev pub width_in : Calls true → ℕ
width_in calls = (row (order_of calls).mode).width

abbrev pub count_in : Calls true → ℕ
count_in calls = count_before calls + length (taken calls)

abbrev pub inside_in : ℕ → Calls true → ℕ
inside_in D calls = inside D (distance_in calls) (stretch calls)

-- the results from place a on and before place b, where the run has taken the units us
abbrev pub results_in : (ℕ → ℕ) → (ℕ → ℕ) → Calls true → List ℕ → ℕ → ℕ → List ℕ
results_in F G calls us a b = drop a (results F G (order_of calls).mode (way_of calls) (listed (order_of calls).values) us b)

-- refused, in this order, for too little room, a unit that is too wide, or more units than the cartridge still takes
abbrev pub refusal_to_feed : ℕ → ℕ → ℕ → List ℕ → ℕ → Answer → Answer
refusal_to_feed in_engine width count us room otherwise =
    cond (nat_lt room (in_engine + length us)) (refused (OutputLength (in_engine + length us)))
    (elim (first_wide width 0 us) [
      | Some i ↦ refused (UnitWidth i)
      | None ↦ cond (nat_lt unit_limit (count + length us)) (refused (UnitLimit (unit_limit - count))) otherwise
    ])

abbrev pub refusal_to_drain : ℕ → ℕ → Answer → Answer
refusal_to_drain in_engine room otherwise = cond (nat_lt room in_engine) (refused (OutputLength in_engine)) otherwise

-- a feed hands out what comes out until its last unit enters
abbrev pub due_feed : (ℕ → ℕ) → (ℕ → ℕ) → ℕ → Calls true → List ℕ → ℕ → Answer
due_feed F G D calls us room =
    refusal_to_feed (inside_in D calls) (width_in calls) (count_in calls) us room
    (gave (results_in F G calls (taken calls ++ us) (length (taken calls) - inside_in D calls)
    (length (taken calls) + length us - inside D (distance_in calls) (stretch calls + length us))))

-- a drain hands out what is in the engine
abbrev pub due_drain : (ℕ → ℕ) → (ℕ → ℕ) → ℕ → Calls true → ℕ → Answer
due_drain F G D calls room =
    refusal_to_drain (inside_in D calls) room (gave (results_in F G calls (taken calls) (length (taken calls) - inside_in D calls) (length (taken calls))))

-- the cycles that have passed: a feed's until its last unit enters, and depth − 1 for a drain that finds something
abbrev pub cycles_passed : ℕ → Calls true → ℕ
cycles_passed D (started o way calls) = 0
cycles_passed D (fed us room (gave hs) calls) =
    cycles_passed D calls + (passed D (distance_in calls) (stretch calls + length us) - passed D (distance_in calls) (stretch calls))
cycles_passed D (fed us room (refused e) calls) = cycles_passed D calls
cycles_passed D (drained room (gave []) calls) = cycles_passed D calls
cycles_passed D (drained room (gave (h ∷ hs)) calls) = cycles_passed D calls + (D - 1)
cycles_passed D (drained room (refused e) calls) = cycles_passed D calls

-- what a closing finds
abbrev pub due_told : ℕ → Calls true → Told
due_told D calls =
    record {
      taken = length (taken calls);
      handed_out = length (handed_out calls);
      inside = inside_in D calls;
      cycles = cycles_passed D calls;
      in_row = inside_in D calls;
      count = count_in calls;
    }

-- every answer was the one due
abbrev pub Follows : (ℕ → ℕ) → (ℕ → ℕ) → ℕ → {b : Bool} → Calls b → Type 0
Follows F G D new = Unit {0}
Follows F G D (started o way calls) = Follows F G D calls
Follows F G D (fed us room a calls) = (a ≡ due_feed F G D calls us room) × Follows F G D calls
Follows F G D (drained room a calls) = (a ≡ due_drain F G D calls room) × Follows F G D calls
Follows F G D (closed told calls) = (told ≡ due_told D calls) × Follows F G D calls
