use Rattle.std.proofs.Common.{◌∙◌, ap, ltb, refl, rules}
use Rattle.std.proofs.lemmas.Bool.{ltb-true}
use Rattle.cipher.specs.Tables.{rotation_table}
use Rattle.cipher.specs.KeySchedule.{round_keys_of, round_keys_from}
use Rattle.cipher.proofs.Arrays.{serves_each, stepped_by}
use Rattle.cipher.proofs.dea.schedule.schedule.Goals as goal

pub map-requires : goal.map-requires
map-requires c =
    let serves = serves_each (λ x. ltb x 3) rotation_table refl in
    (search rules, (search rules, (search rules, serves (λ q x passes. let few = ltb-true x 3 passes in search rules))))

pub returns : goal.returns
unfolding round_keys_of
returns c =
    stepped_by _ (λ f. f.0.now) (λ f q s key called. search rules) rotation_table c.map.result 16 _ refl c.map.ensures.items
    ∙ ap (round_keys_from rotation_table) c.first_halves-halves.ensures
