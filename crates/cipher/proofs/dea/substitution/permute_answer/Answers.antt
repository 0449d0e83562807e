use Rattle.std.proofs.Common.{ℕ, ◌+◌, ◌-◌, ◌*◌, ◌^◌, ◌<◌, ◌≤◌, sym, ap, ◌∙◌, subst, arith, shl_exact}
use Rattle.cipher.specs.Words.{select}
use Rattle.cipher.specs.Tables.{p_table}
use Rattle.cipher.specs.Rounds.{permuted}
use Rattle.cipher.specs.Combined.{permuted_answer}
use Rattle.cipher.specs.Selects.{select_lt}
use Rattle.cipher.proofs.dea.substitution.permute_answer.Goals as goal

pub overflow_cast-result : goal.overflow_cast-result
overflow_cast-result c =
    let lt : c.select.result < 2 ^ 32 = subst (λ (x : ℕ). x < 2 ^ 32) (sym c.select.ensures) (select_lt 32 p_table _) in
    omega arith

pub returns : goal.returns
unfolding permuted_answer permuted
returns c =
    let m : ℕ = 28 - 4 * c.args.number in
    let room : 4 + m ≤ 64 = omega arith in
    c.select.ensures ∙ ap (select 32 p_table) (shl_exact 4 m 64 c.requires.four room)
