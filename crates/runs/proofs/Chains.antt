-- What goes into the chain, unit by unit, by family: f is the family, w its width, δ as many as the initial values.
use Rattle.std.proofs.Common.{◌≡◌, ℕ, ◌+◌, ◌<◌, ◌≤◌, List, [], ◌∷◌, ◌++◌, length, get_or, drop, Some, None, sym, ap, ◌∙◌, div-one, add-one, arith}
use lib.Bits.{bit_xor, xor_comm, xor_zero_r}
use Rattle.std.proofs.lemmas.List.{append_assoc, get_or-take, length-append, length-take-le, take_more, drop-append-le, drop-drop}
use Rattle.std.proofs.lemmas.Option.{none-some}
use Rattle.modes.specs.declared.family.Family.{Family}
use Rattle.modes.specs.declared.family.Family.TheVariants.{Codebook, Chaining, CipherFeedback, OutputFeedback}
use Rattle.modes.specs.declared.way.Way.{Way}
use Rattle.modes.specs.declared.way.Way.TheVariants.{Enciphering, Deciphering}
use Rattle.modes.specs.Bits.{leftmost}
use Rattle.modes.specs.Table.{distance}
use Rattle.modes.specs.Results.{before, register, stream, ciphered, enciphered}
use Rattle.modes.proofs.Fits.{Fit}
use Rattle.modes.proofs.Grown.{length_grown, grown_agree}
use Rattle.engines.specs.Machines.{directed}
use Rattle.runs.specs.Steps.{input_by, mask_by, direction_by, fed_back_by, chained_by, pushed}

-- a unit of 64 bits is the whole block
pub leftmost_all : (w y : ℕ) → w ≡ 64 → leftmost w y ≡ y
leftmost_all w y e = ap (λ k. leftmost k y) e ∙ div-one y

-- only a distance that some family has
pub distance_is : (f : Family) (way : Way) (δ d : ℕ) → distance f way δ ≡ Some d → d ≡ δ
distance_is Codebook way δ d e = absurd (none-some d e)
distance_is Chaining Enciphering δ d e = cc
distance_is Chaining Deciphering δ d e = absurd (none-some d e)
distance_is CipherFeedback Enciphering δ d e = cc
distance_is CipherFeedback Deciphering δ d e = absurd (none-some d e)
distance_is OutputFeedback way δ d e = cc

module _ (F : ℕ → ℕ) (w : ℕ) (ivs us : List ℕ) where
  pub length_chained : (f : Family) (way : Way) (n : ℕ) → n ≤ length us → length (chained_by F f w way ivs us n) ≡ n
  length_chained Codebook way n h = length-take-le n us h
  length_chained Chaining Enciphering n h = length_grown (λ cs i. ciphered F Chaining w ivs cs i (get_or us i 0)) n
  length_chained Chaining Deciphering n h = length-take-le n us h
  length_chained CipherFeedback Enciphering n h = length_grown (λ cs i. ciphered F CipherFeedback w ivs cs i (get_or us i 0)) n
  length_chained CipherFeedback Deciphering n h = length-take-le n us h
  length_chained OutputFeedback way n h = length_grown (λ os i. F (before ivs os i)) n

  -- two of different length agree as far as both go
  pub chained_agree : (f : Family) (way : Way) (m n k : ℕ) → k < m → k < n → get_or (chained_by F f w way ivs us m) k 0 ≡ get_or (chained_by F f w way ivs us n) k 0
  chained_agree Codebook way m n k hm hn = get_or-take m us k 0 hm ∙ sym (get_or-take n us k 0 hn)
  chained_agree Chaining Enciphering m n k hm hn = grown_agree (λ cs i. ciphered F Chaining w ivs cs i (get_or us i 0)) m n k hm hn
  chained_agree Chaining Deciphering m n k hm hn = get_or-take m us k 0 hm ∙ sym (get_or-take n us k 0 hn)
  chained_agree CipherFeedback Enciphering m n k hm hn = grown_agree (λ cs i. ciphered F CipherFeedback w ivs cs i (get_or us i 0)) m n k hm hn
  chained_agree CipherFeedback Deciphering m n k hm hn = get_or-take m us k 0 hm ∙ sym (get_or-take n us k 0 hn)
  chained_agree OutputFeedback way m n k hm hn = grown_agree (λ os i. F (before ivs os i)) m n k hm hn

  -- without a distance a unit itself goes in as it enters
  pub chained_enters : (f : Family) (way : Way) (δ n : ℕ) → distance f way δ ≡ None → n < length us
      → chained_by F f w way ivs us (n + 1) ≡ chained_by F f w way ivs us n ++ get_or us n 0 ∷ []
  chained_enters Codebook way δ n e h = take_more us n 0 h
  chained_enters Chaining Enciphering δ n e h = absurd (none-some δ (sym e))
  chained_enters Chaining Deciphering δ n e h = take_more us n 0 h
  chained_enters CipherFeedback Enciphering δ n e h = absurd (none-some δ (sym e))
  chained_enters CipherFeedback Deciphering δ n e h = take_more us n 0 h
  chained_enters OutputFeedback way δ n e h = absurd (none-some δ (sym e))

  module _ (G : ℕ → ℕ) (f : Family) (way : Way) where
    abbrev pub result_by : ℕ → ℕ
    result_by i =
        directed F G (direction_by f way)
        (input_by f way (get_or us i 0) (before ivs (chained_by F f w way ivs us i) i) (register w ivs (chained_by F f w way ivs us i) i))

    abbrev pub unit_by : ℕ → ℕ
    unit_by i = bit_xor (leftmost w (result_by i)) (mask_by f way (get_or us i 0) (before ivs (chained_by F f w way ivs us i) i))

  -- with one, what comes back of a result goes in as it comes out
  pub chained_leaves : (G : ℕ → ℕ) (f : Family) (way : Way) (δ d n : ℕ) → Fit f w δ → distance f way δ ≡ Some d
      → chained_by F f w way ivs us (n + 1) ≡ chained_by F f w way ivs us n ++ fed_back_by f (result_by G f way n) (unit_by G f way n) ∷ []
  chained_leaves G Codebook way δ d n fit e = absurd (none-some d e)
  chained_leaves G Chaining Enciphering δ d n fit e =
      ap (enciphered F Chaining w ivs us) (add-one n)
      ∙ ap (λ c. enciphered F Chaining w ivs us n ++ c ∷ []) (sym (leftmost_all w _ fit.0) ∙ sym (xor_zero_r _))
  chained_leaves G Chaining Deciphering δ d n fit e = absurd (none-some d e)
  chained_leaves G CipherFeedback Enciphering δ d n fit e =
      ap (enciphered F CipherFeedback w ivs us) (add-one n)
      ∙ ap (λ c. enciphered F CipherFeedback w ivs us n ++ c ∷ []) (xor_comm (get_or us n 0) (leftmost w (F (register w ivs (enciphered F CipherFeedback w ivs us n) n))))
  chained_leaves G CipherFeedback Deciphering δ d n fit e = absurd (none-some d e)
  chained_leaves G OutputFeedback way δ d n fit e = ap (stream F ivs) (add-one n)

  -- a chain that holds all from place n on, one number on
  pub chain_moves : (f : Family) (way : Way) (n x : ℕ) → n ≤ length us → chained_by F f w way ivs us (n + 1) ≡ chained_by F f w way ivs us n ++ x ∷ []
      → pushed (drop n (ivs ++ chained_by F f w way ivs us n)) x ≡ drop (n + 1) (ivs ++ chained_by F f w way ivs us (n + 1))
  chain_moves f way n x h e =
      let C = chained_by F f w way ivs us in
      let l : n ≤ length (ivs ++ C n) = rw (length-append ivs (C n)) (omega (arith, length_chained f way n h)) in
      let front = drop-append-le n (ivs ++ C n) (x ∷ []) l in
      let on = drop-drop 1 n ((ivs ++ C n) ++ x ∷ []) in
      let assoc = append_assoc ivs (C n) (x ∷ []) in
      cc (front, on, assoc, e)
