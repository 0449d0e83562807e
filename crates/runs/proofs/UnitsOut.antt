-- The unit that a run hands out for a place is the mode's result at that place.
use Rattle.std.proofs.Common.{◌≡◌, ℕ, ◌<◌, List, length, get_or, take, sym, ◌∙◌, arith}
use lib.Bits.{xor_comm, xor_zero_r}
use Rattle.std.proofs.lemmas.List.{get_or-take}
use Rattle.modes.specs.declared.family.Family.{Family}
use Rattle.modes.specs.declared.family.Family.TheVariants.{Codebook, Chaining, CipherFeedback, OutputFeedback}
use Rattle.modes.specs.declared.way.Way.{Way}
use Rattle.modes.specs.declared.way.Way.TheVariants.{Enciphering, Deciphering}
use Rattle.modes.specs.declared.mode.Mode.{Mode}
use Rattle.modes.specs.Bits.{leftmost}
use Rattle.modes.specs.Table.{row}
use Rattle.modes.specs.Results.{register, output, ciphered, plain, enciphered, results}
use Rattle.modes.proofs.Fits.{Fit, fit}
use Rattle.modes.proofs.Grown.{grown_at}
use Rattle.modes.proofs.Registers.{before_same, register_same}
use Rattle.runs.specs.Steps.{unit_at}
use Rattle.runs.proofs.Chains.{leftmost_all, unit_by}

module _ (F G : ℕ → ℕ) (w δ : ℕ) (ivs us : List ℕ) (i : ℕ) where
  ciphered_out : (f : Family) → Fit f w δ → ciphered F f w ivs (enciphered F f w ivs us i) i (get_or us i 0) ≡ unit_by F w ivs us G f Enciphering i
  ciphered_out Codebook fits = sym (leftmost_all w (F (get_or us i 0)) fits) ∙ sym (xor_zero_r _)
  ciphered_out Chaining fits = sym (leftmost_all w _ fits.0) ∙ sym (xor_zero_r _)
  ciphered_out CipherFeedback fits = xor_comm (get_or us i 0) (leftmost w (F (register w ivs (enciphered F CipherFeedback w ivs us i) i)))
  ciphered_out OutputFeedback fits = let x = xor_comm (get_or us i 0) (output F ivs i) in let all = leftmost_all w (output F ivs i) fits.0 in cc (x, all)

  plain_out : (f : Family) → Fit f w δ → length ivs ≡ δ → plain F G f w ivs us i (get_or us i 0) ≡ unit_by F w ivs us G f Deciphering i
  plain_out Codebook fits len = sym (leftmost_all w (G (get_or us i 0)) fits) ∙ sym (xor_zero_r _)
  plain_out Chaining fits len =
      let pos = fits.1 in
      let all = leftmost_all w (G (get_or us i 0)) fits.0 in
      let same = before_same ivs us (take i us) i (λ j e. sym (get_or-take i us j 0 (omega arith))) in
      cc (all, same)
  plain_out CipherFeedback fits len =
      let pos = fits.1 in
      let x = xor_comm (get_or us i 0) (leftmost w (F (register w ivs us i))) in
      let same = register_same w ivs us (take i us) i (λ j e. sym (get_or-take i us j 0 (omega arith))) in
      cc (x, same)
  plain_out OutputFeedback fits len = let x = xor_comm (get_or us i 0) (output F ivs i) in let all = leftmost_all w (output F ivs i) fits.0 in cc (x, all)

pub result_is_unit : (F G : ℕ → ℕ) (m : Mode) (way : Way) (ivs us : List ℕ) (n i : ℕ) → length ivs ≡ (row m).values → i < n
    → get_or (results F G m way ivs us n) i 0 ≡ unit_at F G m way ivs us i
result_is_unit F G m Enciphering ivs us n i len h =
    grown_at (λ cs k. ciphered F (row m).family (row m).width ivs cs k (get_or us k 0)) n i h
    ∙ ciphered_out F G (row m).width (row m).values ivs us i (row m).family (fit m)
result_is_unit F G m Deciphering ivs us n i len h =
    grown_at (λ _ k. plain F G (row m).family (row m).width ivs us k (get_or us k 0)) n i h
    ∙ plain_out F G (row m).width (row m).values ivs us i (row m).family (fit m) len
