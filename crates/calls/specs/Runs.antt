-- The runs of a list of calls, read off it.
use Rattle.std.specs.Prelude.{◌≡◌, ℕ, ◌+◌, Bool, true, ◌⊎◌, List, [], ◌∷◌, length, drop}
use Rattle.modes.specs.declared.way.Way.{Way}
use Rattle.modes.specs.declared.order.Order.{Order}
use Rattle.calls.specs.Calls.{Calls, new, started, fed, drained, closed, order_of, way_of, taken, handed_out}

-- a run from its start to its closing or, while it is open, to now: what it was started with, the units taken and those handed out
pub record Run : Type 0 where
  pub order : Order
  pub way : Way
  pub taken : List ℕ
  pub handed_out : List ℕ

-- the open run
abbrev pub run_of : Calls true → Run
run_of calls = record { order = order_of calls; way = way_of calls; taken = taken calls; handed_out = handed_out calls }

-- all runs, the newest first
abbrev pub runs_of : {b : Bool} → Calls b → List Run
runs_of new = []
runs_of (started o way calls) = run_of (started o way calls) ∷ runs_of calls
runs_of (fed us room a calls) = run_of (fed us room a calls) ∷ drop 1 (runs_of calls)
runs_of (drained room a calls) = run_of (drained room a calls) ∷ drop 1 (runs_of calls)
runs_of (closed told calls) = runs_of calls

abbrev pub Among : Run → List Run → Type 0
Among run [] = ⊥
Among run (r ∷ rs) = (run ≡ r) ⊎ Among run rs

-- how many units some runs took
abbrev pub all_taken : List Run → ℕ
all_taken [] = 0
all_taken (r ∷ rs) = all_taken rs + length r.taken
