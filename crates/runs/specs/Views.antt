-- What a frame holds, as the steps see it.
use Rattle.std.specs.Prelude.{◌≡◌, ℕ, ◌+◌, ◌<◌, ◌≤◌, List, length, Some, None, Option}
use Rattle.engines.specs.declared.work.Work.{Work}
use Rattle.engines.specs.Depths.{the_greatest_depth}
use Rattle.modes.specs.declared.mode.Mode.{Mode}
use Rattle.modes.specs.declared.way.Way.{Way}
use Rattle.calls.specs.Limits.{unit_limit}
use Rattle.runs.specs.declared.frame.Frame.{Frame}
use Rattle.runs.specs.Steps.{View, work_of, entered, unit_of, left}

abbrev pub view : Frame → View
view f = record { pending = f.pending.items; chain = f.chain.items; register = f.register; taken = f.taken; cycles = f.cycles }

-- a run's mode, way and first count never change
abbrev pub Kept : Frame → Frame → Type 0
Kept f g = (g.mode ≡ f.mode) × (g.way ≡ f.way) × (g.before ≡ f.before)

-- the cartridge takes n more units
abbrev pub MayTake : Frame → ℕ → Type 0
MayTake f n = f.before + f.taken + n ≤ unit_limit

-- an output list has room for all units inside and n more
abbrev pub HasRoom : Frame → ℕ → List ℕ → Type 0
HasRoom f n xs = length f.pending.items + n ≤ length xs

-- a unit or none taken in, and what goes into the engine; the queues have room
abbrev pub Admitted : Mode → Way → View → View → Option ℕ → Option Work → Type 0
Admitted m way v v' None work = (work ≡ None) × (v' ≡ v)
Admitted m way v v' (Some u) work =
    length v.pending < the_greatest_depth → length v.chain < the_greatest_depth → (work ≡ Some (work_of m way v u)) × (v' ≡ entered m way v u)

-- a result or none come out of the engine, and what is handed out
abbrev pub Released : Mode → Way → View → View → Option ℕ → Option ℕ → Type 0
Released m way v v' None r = (r ≡ None) × (v' ≡ v)
Released m way v v' (Some y) r =
    0 < length v.pending → length v.chain < the_greatest_depth → (r ≡ Some (unit_of m way v y)) × (v' ≡ left m way v y)
