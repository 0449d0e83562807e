use Rattle.std.proofs.Common.{ℕ, ◌/◌, ◌%◌, ◌^◌, ◌<◌, sym, ap, ◌∙◌, subst, arith, shr_lt}
use lib.Bits.{and_mask}
use Rattle.cipher.specs.Tables.{pc1_table}
use Rattle.cipher.specs.KeySchedule.{pc1}
use Rattle.cipher.specs.Selects.{select_lt}
use Rattle.cipher.proofs.dea.schedule.first_halves.Goals as goal

first_lt : (c : goal.After-select-x) → c.select-x.result / 2 ^ 28 < 2 ^ 28
first_lt c = shr_lt 28 28 (subst (λ (x : ℕ). x < 2 ^ 56) (sym c.select-x.ensures) (select_lt 64 pc1_table c.args.key))

pub overflow_cast-result : goal.overflow_cast-result
overflow_cast-result c = let h = first_lt c in record { fits = omega arith }

pub invariant_of-result : goal.invariant_of-result
invariant_of-result c = first_lt c

pub returns : goal.returns
unfolding pc1
returns c =
    let x : ℕ = c.select-x.result in
    ap (λ (y : ℕ). (x / 2 ^ 28, y)) (and_mask x 28) ∙ ap (λ (x : ℕ). (x / 2 ^ 28, x % 2 ^ 28)) c.select-x.ensures
