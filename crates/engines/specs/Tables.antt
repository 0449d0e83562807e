-- Three functional blocks in a table, each idle or holding a block with its direction.
use Rattle.std.specs.Prelude.{ℕ, List, Some, None, Option, slice_index_or}
use Rattle.engines.specs.declared.work.Work.{Work}
use Rattle.engines.specs.declared.table.Stage.{Stage}
use Rattle.engines.specs.declared.table.Stage.TheVariants.{First, Second, Third}
use Rattle.engines.specs.declared.table.BlockState.{BlockState}
use Rattle.engines.specs.declared.table.BlockState.TheVariants.{Idle, Holding}

-- what a functional block holds
abbrev pub held : BlockState → Option Work
held Idle = None
held (Holding work) = Some work

abbrev pub block_in : BlockState → Option ℕ
block_in Idle = None
block_in (Holding work) = Some work.block

-- the functional block that holds it
abbrev pub holding : Option Work → BlockState
holding None = Idle
holding (Some work) = Holding work

-- where a functional block stands in the table
abbrev pub place : Stage → ℕ
place First = 0
place Second = 1
place Third = 2

abbrev pub state : List BlockState → Stage → BlockState
state blocks stage = slice_index_or blocks (place stage) Idle
