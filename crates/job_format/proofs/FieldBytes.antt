-- A field that was written is read, and a field that was read was written.
use Rattle.std.proofs.Common.{◌≡◌, ℕ, ◌+◌, ◌/◌, ◌%◌, ◌≤◌, List, ◌∷◌, ◌++◌, length, get_or, take, drop, Ok, sym, refl, ap, ◌∙◌, add-zero, add_assoc, arith}
use native.Mathlib.Nat.{div-add-mod}
use Rattle.std.proofs.lemmas.List.{length-append, length-drop, length-take-le, get_or-drop, get_or-take, take_at, drop_at, drop-drop, drop_more, take-append-drop}
use Rattle.std.proofs.lemmas.Bool.{le-ltb, eq-eqb}
use Rattle.std.proofs.lemmas.Bool.Decides.{nat_tests}
use Rattle.job_format.specs.declared.tag.Tag.{Tag}
use Rattle.job_format.specs.Tags.{tag_number}
use Rattle.job_format.specs.Reading.{Found, length_at, field_at}
use Rattle.job_format.specs.Fields.{field_bytes, Bytes, Fits}

module _ (due : Tag) (job : List ℕ) (p : ℕ) where
  pub record ReadThere (bs rest : List ℕ) : Type 0 where
    pub is : field_at due job p ≡ Ok (record { tag = due; bytes = bs; after = p + 3 + length bs })
    pub behind : drop (p + 3 + length bs) job ≡ rest

  pub written_field_is_read : (bs rest : List ℕ) → drop p job ≡ field_bytes due bs ++ rest → ReadThere bs rest
  written_field_is_read bs rest lies =
      let long : length job ≡ p + 3 + length bs + length rest = omega (arith, simp (length-drop, length-append) at (ap length lies)) in
      let byte : (k : ℕ) → get_or job (p + k) 0 ≡ get_or (field_bytes due bs ++ rest) k 0 = λ k. sym (get_or-drop p job k 0) ∙ rw lies in
      let room = le-ltb (length job) (p + 3) (omega arith) in
      let tag = eq-eqb (get_or job p 0) (tag_number due) (simp add-zero at (byte 0)) in
      let size : length_at job p ≡ length bs = rw (byte 1, byte 2) (div-add-mod (length bs) 256) in
      let whole = le-ltb (length job) (p + 3 + length bs) (omega arith) in
      let from : drop (p + 3) job ≡ bs ++ rest = sym (drop-drop 3 p job) ∙ rw lies in
      record {
        is = rw (room, tag, size, whole, from, take_at bs rest (length bs) refl);
        behind = sym (drop-drop (length bs) (p + 3) job) ∙ rw (from, drop_at bs rest (length bs) refl);
      }

  pub record WrittenThere (f : Found) : Type 0 where
    pub lies : drop p job ≡ field_bytes due f.bytes ++ drop f.after job
    pub fits : Fits f.bytes

  pub read_field_was_written : (f : Found) → Bytes job → field_at due job p ≡ Ok f → WrittenThere f
  read_field_was_written f bytes is =
      let size = length_at job p in
      let bs = take size (drop (p + 3) job) in
      let found : f ≡ record { tag = due; bytes = bs; after = p + 3 + size } = grind (arith, nat_tests) in
      let tag : get_or job p 0 ≡ tag_number due = grind (arith, nat_tests) in
      let whole : p + 3 + size ≤ length job = grind (arith, nat_tests) in
      let long : length bs ≡ size = length-take-le size (drop (p + 3) job) (simp length-drop (omega arith)) in
      let high = bytes (p + 1) (omega arith) in
      let low = bytes (p + 2) (omega arith) in
      let quotient : length bs / 256 ≡ get_or job (p + 1) 0 = omega arith in
      let remainder : length bs % 256 ≡ get_or job (p + 2) 0 = omega arith in
      let first = drop_more job p 0 (omega arith) in
      let second : drop (p + 1) job ≡ get_or job (p + 1) 0 ∷ drop (p + 2) job = simp add_assoc at (drop_more job (p + 1) 0 (omega arith)) in
      let third : drop (p + 2) job ≡ get_or job (p + 2) 0 ∷ drop (p + 3) job = simp add_assoc at (drop_more job (p + 2) 0 (omega arith)) in
      let rest : drop (p + 3) job ≡ bs ++ drop (p + 3 + size) job = sym (take-append-drop size (drop (p + 3) job)) ∙ rw drop-drop in
      let among : Bytes bs = λ k l. rw (get_or-take size (drop (p + 3) job) k 0 (omega arith), get_or-drop (p + 3) job k 0) (bytes (p + 3 + k) (omega arith)) in
      rw found (record { lies = cc; fits = (omega arith, among) })
