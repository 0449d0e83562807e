use Rattle.std.proofs.Common.{arith}
use Rattle.std.proofs.lemmas.Grind.{common_steps}
use Rattle.modes.specs.Table.{row}
use Rattle.job_format.proofs.Places.{word_first}
use Rattle.job_format.proofs.units.reading.UnitReaderIterator.next.Goals as goal

pub returns-in_ok-word-clause-steps : goal.returns-in_ok-word-clause-steps
returns-in_ok-word-clause-steps c =
    let first = word_first (row c.args.self.now.mode).width c.args.self.now.bytes.now (omega arith) (omega (arith, c.in_ok-word.ensures.cases.2)) in
    grind (arith, common_steps, first, c.from_be_bytes.ensures, c.in_ok-word.ensures.cases.0, c.in_ok-word.ensures.cases.1)

pub returns-in_ok-word-clause-goes : goal.returns-in_ok-word-clause-goes
returns-in_ok-word-clause-goes c =
    let first = word_first (row c.args.self.now.mode).width c.args.self.now.bytes.now (omega arith) (omega (arith, c.in_ok-word.ensures.cases.2)) in
    grind (arith, common_steps, first, c.in_ok-word.ensures.cases.1)
