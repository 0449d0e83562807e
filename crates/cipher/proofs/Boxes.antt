-- Laws of the S boxes.
use Rattle.std.proofs.Common.{◌≡◌, ℕ, ◌+◌, ◌-◌, ◌*◌, ◌/◌, ◌%◌, ◌^◌, ◌<◌, eqb, ltb, sym, refl, ap, ◌∙◌, ap₂, add-one, arith, shr-shr}
use Rattle.std.proofs.lemmas.Bool.{ltb-true, eqb-true}
use Rattle.cipher.specs.Tables.{s_table}
use Rattle.cipher.specs.Rounds.{s_box, substituted}
use Rattle.cipher.specs.Rows.{times, row, EachOnce}
use Rattle.cipher.proofs.Tests.{entry_at, pair_at}

pub s_box_lt : (i six : ℕ) → s_box i six < 16
unfolding s_box
s_box_lt i six =
    ltb-true (s_box i six) 16
    (entry_at (λ x. ltb x 16) 0 refl s_table refl (i * 64 + (six / 32 * 2 + six % 2) * 16 + six / 2 % 16))

-- one box more
pub substituted_more : (i x : ℕ) → i < 8
    → substituted i (x / 2 ^ (48 - 6 * i)) * 16 + s_box i (x / 2 ^ (42 - 6 * i) % 64) ≡ substituted (i + 1) (x / 2 ^ (48 - 6 * (i + 1)))
unfolding substituted
substituted_more i x h =
    let e : 48 - 6 * i ≡ 42 - 6 * i + 6 = omega arith in
    let g : 42 - 6 * i ≡ 48 - 6 * (i + 1) = omega arith in
    ap (λ (y : ℕ). substituted i y * 16 + s_box i (x / 2 ^ (42 - 6 * i) % 64)) (ap (λ (k : ℕ). x / 2 ^ k) e ∙ sym (shr-shr x (42 - 6 * i) 6))
    ∙ ap₂ (λ (n k : ℕ). substituted n (x / 2 ^ k)) (sym (add-one i)) g

-- the rule of the rows, by one test of the whole table
pub rows_each_once : (i : ℕ) → i < 32 → EachOnce (row i)
unfolding row
rows_each_once i hi v hv = eqb-true (times v (row i)) 1 (pair_at 32 16 (λ i v. eqb (times v (row i)) 1) refl i v hi hv)
