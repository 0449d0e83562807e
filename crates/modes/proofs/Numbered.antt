-- The published equations hold of what is sent and received.
use Rattle.std.proofs.Common.{◌≡◌, ℕ, zero, suc, ◌-◌, ◌<◌, ◌≤◌, List, length, get_or, sym, ap, ◌∙◌, ⊎_elim, arith}
use lib.Bits.{bit_xor}
use Rattle.std.proofs.lemmas.List.{ext_get_or}
use Rattle.std.proofs.lemmas.Bool.Decides.{nat_tests}
use Rattle.std.proofs.lemmas.Grind.{common_steps}
use Rattle.std.proofs.lemmas.Bool.{cases_lt}
use Rattle.modes.specs.declared.family.Family.{Family}
use Rattle.modes.specs.declared.family.Family.TheVariants.{Codebook, Chaining, CipherFeedback, OutputFeedback}
use Rattle.modes.specs.Bits.{leftmost}
use Rattle.modes.specs.Table.{row}
use Rattle.modes.specs.Results.{before, register, stream, output, ciphered, plain, enciphered, deciphered}
use Rattle.modes.specs.Equations.{unit, UpTo, back, input, Enciphers, Deciphers, Equations}
use Rattle.modes.proofs.Xor.{unmasked}
use Rattle.modes.proofs.Grown.{length_grown, grown_at}
use Rattle.modes.proofs.Fits.{Fit, fit}
use Rattle.modes.proofs.Registers.{before_late, register_early, register_late}
use Rattle.modes.proofs.Ciphered.{enciphered_at, enciphered_only}

-- from places to numbers
up_to : (n : ℕ) (Q : ℕ → Type 0) → ((k : ℕ) → k < n → Q (suc k)) → UpTo n Q
up_to n Q h zero l l' = absurd (omega arith)
up_to n Q h (suc k) l l' = h k (omega arith)

-- the unit at the distance before unit i
back_is_before : (δ : ℕ) (ivs xs : List ℕ) (k : ℕ) → length ivs ≡ δ → before ivs xs k ≡ back δ (unit ivs) (unit xs) (suc k)
back_is_before δ ivs xs k len = grind (arith, common_steps, nat_tests)

-- the input blocks and the output blocks, numbered

abbrev inputs : ℕ → List ℕ → List ℕ → ℕ → ℕ
inputs w ivs cs zero = 0
inputs w ivs cs (suc k) = register w ivs cs k

module _ (w δ : ℕ) (ivs cs : List ℕ) (len : length ivs ≡ δ) (pos : 0 < δ) where
  abbrev Obeys : ℕ → Type 0
  Obeys i = inputs w ivs cs i ≡ input w δ (unit ivs) (unit cs) (inputs w ivs cs) i

  input_early : (k : ℕ) → k < δ → Obeys (suc k)
  input_early k l = grind (arith, nat_tests, register_early w ivs cs k)

  input_late : (k : ℕ) → δ ≤ k → Obeys (suc k)
  input_late zero l = absurd (omega arith)
  input_late (suc k) l =
      let i : suc (suc k) - 1 ≡ suc k = omega arith in
      let j : suc (suc k) - δ ≡ suc (suc k - δ) = omega arith in
      let r = register_late w ivs cs k (omega arith) in
      let b = before_late ivs cs (suc k) (suc k - δ) (omega arith) in
      rw (i, j, r, b) (grind (arith, nat_tests))

  inputs_obey : (n : ℕ) → UpTo n Obeys
  inputs_obey n = up_to n Obeys (λ k _. ⊎_elim (input_early k) (input_late k) (cases_lt k δ))

  -- no other input blocks obey
  inputs_only : (I : ℕ → ℕ) (n : ℕ) → UpTo n (λ i. I i ≡ input w δ (unit ivs) (unit cs) I i) → (k : ℕ) → k < n → I (suc k) ≡ register w ivs cs k
  inputs_only I n h zero l = grind (arith, nat_tests, h 1 (omega arith) (omega arith), register_early w ivs cs 0)
  inputs_only I n h (suc k) l =
      let i : suc (suc k) - 1 ≡ suc k = omega arith in
      let last : I (suc (suc k) - 1) ≡ inputs w ivs cs (suc (suc k) - 1) = ap I i ∙ inputs_only I n h k (omega arith) ∙ ap (inputs w ivs cs) (sym i) in
      cc (h (suc (suc k)) (omega arith) (omega arith), inputs_obey (suc (suc k)) (suc (suc k)) (omega arith) (omega arith))

abbrev outputs : (ℕ → ℕ) → List ℕ → ℕ → ℕ
outputs F ivs zero = 0
outputs F ivs (suc k) = output F ivs k

outputs_obey : (F : ℕ → ℕ) (δ : ℕ) (ivs : List ℕ) (n : ℕ) → length ivs ≡ δ → 0 < δ
    → UpTo n (λ i. outputs F ivs i ≡ F (back δ (unit ivs) (outputs F ivs) i))
outputs_obey F δ ivs n len pos =
    up_to n _
    (λ k _. let b : before ivs (stream F ivs k) k ≡ back δ (unit ivs) (outputs F ivs) (suc k) =
    grind (arith, common_steps, nat_tests, grown_at (λ os i. F (before ivs os i)) k (k - δ)) in
    ap F b)

-- no other output blocks obey
outputs_only : (F : ℕ → ℕ) (δ : ℕ) (ivs : List ℕ) (O : ℕ → ℕ) (n : ℕ) → length ivs ≡ δ → 0 < δ → UpTo n (λ i. O i ≡ F (back δ (unit ivs) O i))
    → (k : ℕ) → k ≤ n → (i : ℕ) → i < k → O (suc i) ≡ output F ivs i
outputs_only F δ ivs O n len pos h zero hk i l = absurd (omega arith)
outputs_only F δ ivs O n len pos h (suc k) hk i l =
    let far = λ (d : δ ≤ i). outputs_only F δ ivs O n len pos h k (omega arith) (i - δ) (omega arith) in
    let b : back δ (unit ivs) O (suc i) ≡ back δ (unit ivs) (outputs F ivs) (suc i) = grind (arith, nat_tests, far) in
    h (suc i) (omega arith) (omega arith) ∙ ap F b ∙ sym (outputs_obey F δ ivs (suc i) len pos (suc i) (omega arith) (omega arith))

-- the equations of one mode, place by place

module _ (F G : ℕ → ℕ) (w δ : ℕ) (ivs : List ℕ) (len : length ivs ≡ δ) (ps cs : List ℕ) (n : ℕ) where
  abbrev Ciphered : Family → Type 0
  Ciphered f = (k : ℕ) → k < n → get_or cs k 0 ≡ ciphered F f w ivs cs k (get_or ps k 0)

  enciphers : (f : Family) → Fit f w δ → Ciphered f → Enciphers f F w δ (unit ivs) (unit ps) (unit cs) n
  enciphers Codebook fit h = up_to n _ h
  enciphers Chaining fit h = up_to n _ (λ k l. h k l ∙ ap (λ x. F (bit_xor (get_or ps k 0) x)) (back_is_before δ ivs cs k len))
  enciphers CipherFeedback fit h = (inputs w ivs cs, (inputs_obey w δ ivs cs len fit.1 n, up_to n _ h))
  enciphers OutputFeedback fit h = (outputs F ivs, (outputs_obey F δ ivs n len fit.1, up_to n _ h))

  enciphered_by : (f : Family) → Fit f w δ → Enciphers f F w δ (unit ivs) (unit ps) (unit cs) n → Ciphered f
  enciphered_by Codebook fit h k l = h (suc k) (omega arith) (omega arith)
  enciphered_by Chaining fit h k l =
      h (suc k) (omega arith) (omega arith) ∙ ap (λ x. F (bit_xor (get_or ps k 0) x)) (sym (back_is_before δ ivs cs k len))
  enciphered_by CipherFeedback fit h k l =
      h.1.1 (suc k) (omega arith) (omega arith)
      ∙ ap (λ x. bit_xor (get_or ps k 0) (leftmost w (F x))) (inputs_only w δ ivs cs len fit.1 h.0 n h.1.0 k l)
  enciphered_by OutputFeedback fit h k l =
      h.1.1 (suc k) (omega arith) (omega arith)
      ∙ ap (bit_xor (get_or ps k 0)) (outputs_only F δ ivs h.0 n len fit.1 h.1.0 n (omega arith) k l)

  abbrev Plain : Family → Type 0
  Plain f = (k : ℕ) → k < n → get_or ps k 0 ≡ plain F G f w ivs cs k (get_or cs k 0)

  deciphers : (f : Family) → Fit f w δ → Plain f → Deciphers f F G w δ (unit ivs) (unit ps) (unit cs) n
  deciphers Codebook fit h = up_to n _ h
  deciphers Chaining fit h = up_to n _ (λ k l. h k l ∙ ap (bit_xor (G (get_or cs k 0))) (back_is_before δ ivs cs k len))
  deciphers CipherFeedback fit h = enciphers CipherFeedback fit (λ k l. unmasked (get_or ps k 0) (get_or cs k 0) (leftmost w (F (register w ivs cs k))) (h k l))
  deciphers OutputFeedback fit h = enciphers OutputFeedback fit (λ k l. unmasked (get_or ps k 0) (get_or cs k 0) (output F ivs k) (h k l))

  deciphered_by : (f : Family) → Fit f w δ → Deciphers f F G w δ (unit ivs) (unit ps) (unit cs) n → Plain f
  deciphered_by Codebook fit h k l = h (suc k) (omega arith) (omega arith)
  deciphered_by Chaining fit h k l =
      h (suc k) (omega arith) (omega arith) ∙ ap (bit_xor (G (get_or cs k 0))) (sym (back_is_before δ ivs cs k len))
  deciphered_by CipherFeedback fit h k l =
      unmasked (get_or cs k 0) (get_or ps k 0) (leftmost w (F (register w ivs cs k))) (enciphered_by CipherFeedback fit h k l)
  deciphered_by OutputFeedback fit h k l = unmasked (get_or cs k 0) (get_or ps k 0) (output F ivs k) (enciphered_by OutputFeedback fit h k l)

pub equations : Equations
equations F G m ivs us len =
    let f = (row m).family in
    let w = (row m).width in
    let δ = (row m).values in
    let n = length us in
    let cs = enciphered F f w ivs us n in
    let ps = deciphered F G f w ivs us n in
    record {
      sends = enciphers F G w δ ivs len us cs n f (fit m) (λ k l. enciphered_at F f w δ ivs us n k (fit m) len l);
      sends_only = λ xs lx h. enciphered_only F f w δ ivs us xs n (fit m) len lx (enciphered_by F G w δ ivs len us xs n f (fit m) h);
      receives = deciphers F G w δ ivs len ps us n f (fit m) (λ k l. grown_at (λ _ i. plain F G f w ivs us i (get_or us i 0)) n k l);
      receives_only = λ xs lx h.
          ext_get_or 0 xs ps (lx ∙ sym (length_grown (λ _ i. plain F G f w ivs us i (get_or us i 0)) n))
          (λ k l. deciphered_by F G w δ ivs len xs us n f (fit m) h k (omega arith)
          ∙ sym (grown_at (λ _ i. plain F G f w ivs us i (get_or us i 0)) n k (omega arith)));
    }
