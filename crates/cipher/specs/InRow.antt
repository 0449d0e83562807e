-- Pairs of functions that undo each other, in a row.
use Rattle.std.proofs.Common.{ap, ◌∙◌}
use Rattle.std.specs.Prelude.{ℕ}
use Rattle.cipher.specs.Undoing.{Undo}
use Rattle.cipher.specs.Triples.{in_row}

pub undo_swapped : {F G : ℕ → ℕ} → Undo F G → Undo G F
undo_swapped u =
    record { back = u.forth; forth = u.back; forward_is_block = u.inverse_is_block; inverse_is_block = u.forward_is_block }

pub undo_in_row : {F1 G1 F2 G2 F3 G3 : ℕ → ℕ} → Undo F1 G1 → Undo F2 G2 → Undo F3 G3 → Undo (in_row F1 F2 F3) (in_row G3 G2 G1)
undo_in_row {F1} {G1} {F2} {G2} {F3} {G3} u1 u2 u3 =
    record {
      back = λ b h.
          let h1 = u1.forward_is_block b h in
          ap (λ (x : ℕ). G1 (G2 x)) (u3.back (F2 (F1 b)) (u2.forward_is_block (F1 b) h1)) ∙ ap G1 (u2.back (F1 b) h1) ∙ u1.back b h;
      forth = λ b h.
          let h3 = u3.inverse_is_block b h in
          ap (λ (x : ℕ). F3 (F2 x)) (u1.forth (G2 (G3 b)) (u2.inverse_is_block (G3 b) h3)) ∙ ap F3 (u2.forth (G3 b) h3) ∙ u3.forth b h;
      forward_is_block = λ b h. u3.forward_is_block (F2 (F1 b)) (u2.forward_is_block (F1 b) (u1.forward_is_block b h));
      inverse_is_block = λ b h. u1.inverse_is_block (G2 (G3 b)) (u2.inverse_is_block (G3 b) (u3.inverse_is_block b h));
    }
