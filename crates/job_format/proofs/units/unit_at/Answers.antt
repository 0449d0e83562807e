use Rattle.std.proofs.Common.{arith}
use Rattle.modes.specs.Table.{row}
use Rattle.job_format.proofs.Places.{none_behind, block_placed}
use Rattle.job_format.proofs.units.unit_at.Goals as goal

pub returns-then-index-bytes : goal.returns-then-index-bytes
returns-then-index-bytes c =
    let behind = simp c.unit_size.ensures.value at c.if-index-bytes.true in
    none_behind (row c.args.mode).width c.args.bytes.now c.args.index behind

pub returns-else-width-lt64 : goal.returns-else-width-lt64
returns-else-width-lt64 c =
    let before = simp c.unit_size.ensures.value at c.if-index-bytes.false in
    let placed = block_placed (row c.args.mode).width c.args.bytes.now c.args.index (omega arith) before in
    cc c.block_at.ensures
