use Rattle.std.proofs.Common.{refl}
use Rattle.cipher.specs.Combined.{window}
use Rattle.cipher.proofs.dea.rounds.window.Goals as goal

pub returns : goal.returns
unfolding window
returns c = refl
