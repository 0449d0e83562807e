use Rattle.std.proofs.Common.{refl}
use Rattle.cipher.specs.Rounds.{s_box}
use Rattle.cipher.proofs.Boxes.{s_box_lt}
use Rattle.cipher.proofs.dea.substitution.substitute.Goals as goal

pub returns : goal.returns
unfolding s_box
returns c = record { value = refl; four = s_box_lt c.args.number c.args.six }
