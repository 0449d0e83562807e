use Rattle.std.proofs.Common.{◌≡◌, ℕ, ◌++◌, map, take, drop}
use Rattle.test_exports.proofs.replace_each.Given as goal

abbrev pub invariant-loop-block : goal.invariant-loop-block
invariant-loop-block g l =
    (G : ℕ → ℕ) → ((block made : ℕ) → goal.F-post g l.made_of block made → made ≡ G block)
    → l.blocks ≡ map G (take l.block-index l.initial.blocks) ++ drop l.block-index l.initial.blocks
