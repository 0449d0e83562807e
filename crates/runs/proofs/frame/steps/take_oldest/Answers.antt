use Rattle.std.proofs.Common.{◌≡◌, ◌+◌, ◌-◌, ◌<◌, ◌++◌, length, take, drop, arith}
use Rattle.std.proofs.lemmas.Grind.{common_steps}
use Rattle.runs.proofs.frame.steps.take_oldest.Goals as goal

pub loop-i-init : goal.loop-i-init
loop-i-init c = (grind (arith, common_steps), grind (arith, common_steps), grind (arith, common_steps))

pub bounds-deref-i : goal.bounds-deref-i
bounds-deref-i c = grind (arith, common_steps)

pub bounds-deref_mut-i : goal.bounds-deref_mut-i
bounds-deref_mut-i c = grind (arith, common_steps)

pub loop-i-preserved : goal.loop-i-preserved
loop-i-preserved c = (grind (arith, common_steps), grind (arith, common_steps), grind (arith, common_steps))

pub returns-clause-value : goal.returns-clause-value
returns-clause-value c = grind (arith, common_steps)

pub returns-clause-rest : goal.returns-clause-rest
returns-clause-rest c = grind (arith, common_steps)
