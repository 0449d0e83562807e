use Rattle.std.proofs.Common.{refl}
use Rattle.cipher.specs.Exchanges.{exchanged}
use Rattle.cipher.proofs.dea.words.exchange.Goals as goal

pub returns : goal.returns
unfolding exchanged
returns c = refl
