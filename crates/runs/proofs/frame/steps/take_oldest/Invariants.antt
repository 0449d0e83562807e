use Rattle.std.proofs.Common.{◌≡◌, ◌+◌, ◌++◌, length, take, drop, slice_index}
use Rattle.runs.proofs.frame.steps.take_oldest.Given as goal

-- the number at a place is held, and those behind it have moved up
abbrev pub invariant-loop-i : goal.invariant-loop-i
invariant-loop-i l =
    let xs = l.fn.queue.items in
    (length l.queue.items + 1 ≡ length xs)
    × (l.queue.items ≡ take l.i xs ++ drop (l.i + 1) xs)
    × (l.number ≡ slice_index xs l.i)
