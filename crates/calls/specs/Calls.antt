-- The calls on one cartridge, new at the first: what was asked, and what was answered or told. The newest call stands outermost.
-- The index says whether a run is open: a start stands only where none is, the others only in one.
use Rattle.std.specs.Prelude.{ℕ, ◌+◌, Bool, true, false, List, [], ◌∷◌, ◌++◌, length}
use Rattle.refusals.specs.declared.Refusal.{Refusal}
use Rattle.modes.specs.declared.way.Way.{Way}
use Rattle.modes.specs.declared.order.Order.{Order}

-- units handed out, or a refusal
pub data Answer : Type 0 where
  gave : List ℕ → Answer
  refused : Refusal → Answer

-- what a closing finds: the numbers that the run tells, the blocks counted in its engine's row, and the count that the cartridge tells then
pub record Told : Type 0 where
  pub taken : ℕ
  pub handed_out : ℕ
  pub inside : ℕ
  pub cycles : ℕ
  pub in_row : ℕ
  pub count : ℕ

-- a start with its order and way; a feed with its units, the length of its output list and its answer; a drain likewise; a closing
pub data Calls : Bool → Type 0 where
  new : Calls false
  started : Order → Way → Calls false → Calls true
  fed : List ℕ → ℕ → Answer → Calls true → Calls true
  drained : ℕ → Answer → Calls true → Calls true
  closed : Told → Calls true → Calls false

-- ---- the open run

abbrev pub order_of : Calls true → Order
order_of (started o way calls) = o
order_of (fed us room a calls) = order_of calls
order_of (drained room a calls) = order_of calls

abbrev pub way_of : Calls true → Way
way_of (started o way calls) = way
way_of (fed us room a calls) = way_of calls
way_of (drained room a calls) = way_of calls

-- the units of its feeds that were not refused
abbrev pub taken : Calls true → List ℕ
taken (started o way calls) = []
taken (fed us room (gave hs) calls) = taken calls ++ us
taken (fed us room (refused e) calls) = taken calls
taken (drained room a calls) = taken calls

-- the units that its feeds and drains gave
abbrev pub handed_out : Calls true → List ℕ
handed_out (started o way calls) = []
handed_out (fed us room (gave hs) calls) = handed_out calls ++ hs
handed_out (fed us room (refused e) calls) = handed_out calls
handed_out (drained room (gave hs) calls) = handed_out calls ++ hs
handed_out (drained room (refused e) calls) = handed_out calls

-- how many units the stretch has that is not ended: a drain that found something ends one
abbrev pub stretch : Calls true → ℕ
stretch (started o way calls) = 0
stretch (fed us room (gave hs) calls) = stretch calls + length us
stretch (fed us room (refused e) calls) = stretch calls
stretch (drained room (gave []) calls) = stretch calls
stretch (drained room (gave (h ∷ hs)) calls) = 0
stretch (drained room (refused e) calls) = stretch calls

-- the stretches that were ended so, the newest first
abbrev pub ended : Calls true → List ℕ
ended (started o way calls) = []
ended (fed us room a calls) = ended calls
ended (drained room (gave []) calls) = ended calls
ended (drained room (gave (h ∷ hs)) calls) = stretch calls ∷ ended calls
ended (drained room (refused e) calls) = ended calls

-- what the cartridge told last, and so what its count was as the run started
abbrev pub count_told : Calls false → ℕ
count_told new = 0
count_told (closed told calls) = told.count

abbrev pub count_before : Calls true → ℕ
count_before (started o way calls) = count_told calls
count_before (fed us room a calls) = count_before calls
count_before (drained room a calls) = count_before calls
