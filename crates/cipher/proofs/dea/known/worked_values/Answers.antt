use Rattle.std.proofs.Common.{refl}
use Rattle.cipher.specs.Words.{select}
use Rattle.cipher.specs.Rounds.{ip, ip_inverse, expanded, s_box, permuted}
use Rattle.cipher.specs.KeySchedule.{pc1, rotated, pc2, round_keys_of}
use Rattle.cipher.proofs.dea.known.worked_values.Goals as goal

pub returns : goal.returns
unfolding select ip ip_inverse expanded s_box permuted pc1 rotated pc2 round_keys_of
returns c = record { hold = (refl, (refl, (refl, (refl, (refl, (refl, tt)))))); count = refl }
