use Rattle.std.proofs.Common.{get_or, set, ap, ◌∙◌, arith}
use Rattle.std.proofs.lemmas.List.Edits.{map_over_more}
use Rattle.std.proofs.lemmas.List.{get_or_default}
use Rattle.test_exports.proofs.replace_each.Goals as goal

pub loop-block-preserved : goal.loop-block-preserved
loop-block-preserved g c = λ G each.
    let xs = c.args.blocks.now in
    let ys = c.loop-block.blocks in
    let i = c.loop-block.block-index in
    ap (set ys i) (each _ _ c.made_of.ensures)
    ∙ map_over_more G xs ys i (get_or ys i 0) c.loop-block-test.true (c.loop-block.invariant G each) (get_or_default ys i 0 (get_or ys i 0) (omega arith))
