use Rattle.std.proofs.Common.{ℕ, List, inl, ap, length, arith, ◌∙◌, rules, tests}
use Rattle.std.proofs.lemmas.Iterator.Consumers.{YieldsList-from_first}
use Rattle.std.proofs.lemmas.Iterator.Search.{position_from_yields_List}
use Rattle.modes.specs.Table.{row}
use Rattle.modes.proofs.Wides.{is_wide, first_wide_is_position}
use Rattle.job_format.specs.UnitBytes.{units_in}
use Rattle.job_format.specs.UnitsLeft.{units_left}
use Rattle.job_format.proofs.Sizes.{units_in_few}
use Rattle.job_format.proofs.units.reading.first_too_wide.Goals as goal

pub position-requires-clause-fits : goal.position-requires-clause-fits
position-requires-clause-fits c = inl (omega (arith, units_in_few (row c.args.mode).width c.args.bytes.now, ap length c.new.ensures))

pub returns : goal.returns
returns c =
    let w : ℕ = (row c.args.mode).width in
    let us : List ℕ = units_in w c.args.bytes.now in
    position_from_yields_List (is_wide w) c.position.new.self _ c.position.result c.position.ensures.ran (YieldsList-from_first (λ x. x) units_left us c.new.ensures)
    (λ x b q k. search (rules, tests))
    ∙ first_wide_is_position w us
