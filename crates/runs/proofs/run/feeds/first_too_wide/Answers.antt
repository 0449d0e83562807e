use Rattle.std.proofs.Common.{ℕ, List, ◌∙◌, rules, tests}
use Rattle.std.proofs.lemmas.Iterator.{YieldsList-from_slice}
use Rattle.std.proofs.lemmas.Iterator.Search.{position_from_yields_List}
use Rattle.modes.specs.Table.{row}
use Rattle.modes.proofs.Wides.{is_wide, first_wide_is_position}
use Rattle.runs.proofs.run.feeds.first_too_wide.Goals as goal

pub returns : goal.returns
returns c =
    let w : ℕ = (row c.args.mode).width in
    let us : List ℕ = c.args.units.now in
    position_from_yields_List (is_wide w) _ _ c.position.result c.position.ensures.ran (YieldsList-from_slice us c.iter.ensures.rest)
    (λ x b q k. search (rules, tests))
    ∙ first_wide_is_position w us
