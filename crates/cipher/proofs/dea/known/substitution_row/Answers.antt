use Rattle.std.proofs.Common.{◌≡◌, ℕ, ◌+◌, ◌-◌, ◌*◌, cond, List, take, drop, Some, None, Option, sym, ap, ◌∙◌, arith}
use Rattle.std.proofs.lemmas.Bool.{lt-ltb}
use Rattle.cipher.specs.Tables.{s_table}
use Rattle.cipher.specs.Rows.{row}
use Rattle.cipher.proofs.Boxes.{rows_each_once}
use Rattle.cipher.proofs.dea.known.substitution_row.Goals as goal

pub returns-then-row-lt32 : goal.returns-then-row-lt32
unfolding row
returns-then-row-lt32 c =
    let i : ℕ = c.args.row in
    let width : i * 16 + 16 - i * 16 ≡ 16 = omega arith in
    let here : Option (List ℕ) = Some (row i) in
    record {
      value = ap (λ (n : ℕ). Some (take n (drop (i * 16) s_table))) width ∙ sym (ap (λ b. cond b here None) (lt-ltb i 32 c.if-row-lt32.true));
      once = λ h. rows_each_once i h;
    }
