use Rattle.std.proofs.Common.{◌≡◌, ℕ, ◌*◌, ◌%◌, ◌^◌, ap, ◌∙◌, mod-eq_of_lt, arith}
use lib.Bits.{bit_or, or_shifted}
use Rattle.cipher.specs.Words.{select}
use Rattle.cipher.specs.Tables.{pc2_table}
use Rattle.cipher.specs.KeySchedule.{pc2}
use Rattle.cipher.proofs.dea.schedule.round_key.Goals as goal

pub returns : goal.returns
unfolding pc2
returns c =
    let l : ℕ = c.halves.inside.0.0.0 in
    let r : ℕ = c.halves.inside.0.1.0.0 in
    let whole : l * 2 ^ 28 % 2 ^ 64 ≡ l * 2 ^ 28 = mod-eq_of_lt (omega arith) in
    c.select.ensures
    ∙ ap (select 56 pc2_table) (ap (λ (h : ℕ). bit_or h r) whole ∙ or_shifted l 28 r c.halves.invariant.1)
    ∙ ap pc2 c.halves.view_is
