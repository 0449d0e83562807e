-- What a receiver gets: units for units, the front of a longer list, the sender's list, and the way back after a gap.
use Rattle.std.proofs.Common.{◌≡◌, ℕ, zero, suc, ◌+◌, ◌-◌, ◌/◌, ◌^◌, ◌<◌, ◌≤◌, List, ◌++◌, length, get_or, take, Some, sym, ap, ◌∙◌, arith}
use lib.Bits.{bit_xor}
use Rattle.std.proofs.lemmas.List.{get_or_append_left, length-append, ext_get_or}
use Rattle.cipher.specs.Undoing.{Undo}
use Rattle.modes.specs.declared.family.Family.{Family}
use Rattle.modes.specs.declared.family.Family.TheVariants.{Codebook, Chaining, CipherFeedback, OutputFeedback}
use Rattle.modes.specs.declared.way.Way.{Way}
use Rattle.modes.specs.declared.way.Way.TheVariants.{Enciphering, Deciphering}
use Rattle.modes.specs.Bits.{leftmost}
use Rattle.modes.specs.declared.mode.Mode.{Mode}
use Rattle.modes.specs.Table.{row, memory}
use Rattle.modes.specs.Values.{Units, Begins}
use Rattle.modes.specs.Results.{results, sent, received, before, register, output, ciphered, plain}
use Rattle.modes.specs.Laws.{Ends, UnitsGiveUnits, Prefix, Restoring, Recovery}
use Rattle.modes.proofs.Grown.{length_grown, grown_at, grown_same, take_grown}
use Rattle.modes.proofs.Fits.{Fit, fit, as_block, register_holds}
use Rattle.modes.proofs.Registers.{before_late, register_below, register_whole}
use Rattle.modes.proofs.Ciphered.{plain_same, output_block, enciphered_units, deciphered_units, deciphers_back}

-- the lists of results, either way

module _ (F G : ℕ → ℕ) (m : Mode) where
  pub length_results : (way : Way) (ivs us : List ℕ) (n : ℕ) → length (results F G m way ivs us n) ≡ n
  length_results Enciphering ivs us n = length_grown _ n
  length_results Deciphering ivs us n = length_grown _ n

  pub take_results : (way : Way) (ivs us : List ℕ) (k n : ℕ) → k ≤ n → take k (results F G m way ivs us n) ≡ results F G m way ivs us k
  take_results Enciphering ivs us k n l = take_grown _ k n l
  take_results Deciphering ivs us k n l = take_grown _ k n l

  -- the first n results come from the first n units
  pub results_same : (way : Way) (ivs us vs : List ℕ) (n : ℕ) → ((i : ℕ) → i < n → get_or us i 0 ≡ get_or vs i 0)
      → results F G m way ivs us n ≡ results F G m way ivs vs n
  results_same Enciphering ivs us vs n same =
      let next : List ℕ → List ℕ → ℕ → ℕ = λ ps cs i. ciphered F (row m).family (row m).width ivs cs i (get_or ps i 0) in
      grown_same (next us) (next vs) n
      (λ i l. ap (ciphered F (row m).family (row m).width ivs (results F G m Enciphering ivs us i) i) (same i l))
  results_same Deciphering ivs us vs n same =
      let next : List ℕ → List ℕ → ℕ → ℕ = λ cs _ i. plain F G (row m).family (row m).width ivs cs i (get_or cs i 0) in
      grown_same (next us) (next vs) n
      (λ i l. plain_same F G (row m).family (row m).width ivs us vs i (get_or us i 0) (λ j q. same j (omega arith))
      ∙ ap (plain F G (row m).family (row m).width ivs vs i) (same i l))

  pub results_units : Undo F G → (way : Way) (ivs us : List ℕ) (n : ℕ) → Begins m ivs → Units (row m).width us → n ≤ length us
      → Units (row m).width (results F G m way ivs us n)
  results_units u Enciphering ivs us n b h l =
      enciphered_units F G u (row m).family (row m).width (row m).values (fit m) ivs us b.count b.blocks h n l
  results_units u Deciphering ivs us n b h l =
      deciphered_units F G u (row m).family (row m).width (row m).values (fit m) ivs us b.count b.blocks h n l

pub units_give_units : UnitsGiveUnits
units_give_units F G u m way ivs us b h = (length_results F G m way ivs us (length us), results_units F G m u way ivs us (length us) b h (omega arith))

pub prefix : Prefix
prefix F G m way ivs us more =
    take_results F G m way ivs (us ++ more) (length us) (length (us ++ more)) (omega (arith, length-append us more))
    ∙ results_same F G m way ivs (us ++ more) us (length us) (λ i l. get_or_append_left us more 0 i l)

-- ciphers that are the same at every block give the same plain units

module _ (F G F' G' : ℕ → ℕ) (ends : Ends F G F' G') where
  output_same : (ivs : List ℕ) (i : ℕ) → 0 < length ivs → Units 64 ivs → output F ivs i ≡ output F' ivs i
  output_same ivs i pos b =
      let next : (ℕ → ℕ) → List ℕ → ℕ → ℕ = λ H os k. H (before ivs os k) in
      let block = output_block F G ends.undo ivs in
      sym (ends.forward _ (block i pos b))
      ∙ ap (λ os. F' (before ivs os i)) (grown_same (next F) (next F') i (λ k _. sym (ends.forward _ (block k pos b))))

  plain_same_ends : (f : Family) (w δ : ℕ) (ivs cs : List ℕ) (i c : ℕ) → Fit f w δ → length ivs ≡ δ → Units 64 ivs → c < 2 ^ w
      → plain F G f w ivs cs i c ≡ plain F' G' f w ivs cs i c
  plain_same_ends Codebook w δ ivs cs i c fit len b hc = sym (ends.inverse c (as_block fit c hc))
  plain_same_ends Chaining w δ ivs cs i c fit len b hc =
      ap (λ x. bit_xor x (before ivs cs i)) (sym (ends.inverse c (as_block fit.0 c hc)))
  plain_same_ends CipherFeedback w δ ivs cs i c fit len b hc =
      ap (λ x. bit_xor c (leftmost w x)) (sym (ends.forward _ (register_below w ivs cs i (omega arith) b)))
  plain_same_ends OutputFeedback w δ ivs cs i c fit len b hc = ap (bit_xor c) (output_same ivs i (omega arith) b)

  -- what is received at place i
  pub received_at : (m : Mode) (ivs cs : List ℕ) (i : ℕ) → Begins m ivs → Units (row m).width cs → i < length cs
      → get_or (received F' G' m ivs cs) i 0 ≡ plain F G (row m).family (row m).width ivs cs i (get_or cs i 0)
  received_at m ivs cs i b h l =
      grown_at _ (length cs) i l
      ∙ sym (plain_same_ends (row m).family (row m).width (row m).values ivs cs i (get_or cs i 0) (fit m) b.count b.blocks (h i l))

-- what was sent deciphers to its plain unit
pub sent_back : (F G : ℕ → ℕ) → Undo F G → (m : Mode) (ivs ps : List ℕ) → Begins m ivs → Units (row m).width ps → (i : ℕ) → i < length ps
    → plain F G (row m).family (row m).width ivs (sent F G m ivs ps) i (get_or (sent F G m ivs ps) i 0) ≡ get_or ps i 0
sent_back F G u m ivs ps b h i l =
    deciphers_back F G u (row m).family (row m).width (row m).values (fit m) ivs ps b.count b.blocks h (length ps) (omega arith) i l

pub restoring : Restoring
restoring F G F' G' ends m ivs ps b h =
    let cs = sent F G m ivs ps in
    let len : length cs ≡ length ps = length_results F G m Enciphering ivs ps (length ps) in
    let out : length (received F' G' m ivs cs) ≡ length cs = length_results F' G' m Deciphering ivs cs (length cs) in
    let hc = results_units F G m ends.undo Enciphering ivs ps (length ps) b h (omega arith) in
    ext_get_or 0 (received F' G' m ivs cs) ps (out ∙ len)
    (λ i l. received_at F G F' G' ends m ivs cs i b hc (omega arith) ∙ sent_back F G ends.undo m ivs ps b h i (omega arith))

-- a plain unit rests on its own ciphered unit and on as many before it as the memory says
plain_rests : (F G : ℕ → ℕ) (f : Family) (w δ r : ℕ) → Fit f w δ → memory f w δ ≡ Some r → (ivs ivs' xs ys : List ℕ) (a s : ℕ) → length ivs ≡ δ → length ivs' ≡ δ
    → ((k : ℕ) → k ≤ r → (get_or xs (a + k) 0 ≡ get_or ys (s + k) 0) × (get_or ys (s + k) 0 < 2 ^ w))
    → plain F G f w ivs xs (a + r) (get_or xs (a + r) 0) ≡ plain F G f w ivs' ys (s + r) (get_or ys (s + r) 0)
plain_rests F G Codebook w δ r fit mem ivs ivs' xs ys a s len len' h = ap G (h r (omega arith)).0
plain_rests F G Chaining w δ r fit mem ivs ivs' xs ys a s len len' h =
    let m : δ ≡ r = cc in
    let at : (zs : List ℕ) (k : ℕ) → get_or zs (k + 0) 0 ≡ get_or zs k 0 = λ zs k. ap (λ i. get_or zs i 0) (omega arith) in
    let first : get_or xs a 0 ≡ get_or ys s 0 = sym (at xs a) ∙ (h 0 (omega arith)).0 ∙ at ys s in
    let link : before ivs xs (a + r) ≡ before ivs' ys (s + r) =
    before_late ivs xs (a + r) a (omega arith) ∙ first ∙ sym (before_late ivs' ys (s + r) s (omega arith)) in
    let own : get_or xs (a + r) 0 ≡ get_or ys (s + r) 0 = (h r (omega arith)).0 in
    cc (link, own)
plain_rests F G CipherFeedback w zero r fit mem ivs ivs' xs ys a s len len' h = absurd (omega (arith, fit.1))
plain_rests F G CipherFeedback w (suc d) r fit mem ivs ivs' xs ys a s len len' h =
    let q = register_holds w fit.0 in
    let m : 64 / w + suc d - 1 ≡ r = cc in
    let size : 64 / w ≡ suc q.0 = q.1 in
    let m' : r ≡ suc q.0 + d = omega arith in
    let ea : d + a + suc q.0 ≡ a + r = omega arith in
    let es : d + s + suc q.0 ≡ s + r = omega arith in
    let same : register w ivs xs (a + r) ≡ register w ivs' ys (s + r) =
    ap (register w ivs xs) (sym ea)
    ∙ register_whole w d ivs ivs' xs ys len len' a s q.0 q.2 (λ t l. h t (omega arith))
    ∙ ap (register w ivs' ys) es in
    let own : get_or xs (a + r) 0 ≡ get_or ys (s + r) 0 = (h r (omega arith)).0 in
    cc (same, own)
plain_rests F G OutputFeedback w δ r fit mem ivs ivs' xs ys a s len len' h = cc

pub recovery : Recovery
recovery F G F' G' ends m r mem ivs ivs' ps xs b b' hp hx i j ri hi rj hj eq =
    let f = (row m).family in
    let w = (row m).width in
    let cs = sent F G m ivs ps in
    let len : length cs ≡ length ps = length_results F G m Enciphering ivs ps (length ps) in
    let hc = results_units F G m ends.undo Enciphering ivs ps (length ps) b hp (omega arith) in
    let ei : i - r + r ≡ i = omega arith in
    let ej : j - r + r ≡ j = omega arith in
    let window : (k : ℕ) → k ≤ r → (get_or xs (j - r + k) 0 ≡ get_or cs (i - r + k) 0) × (get_or cs (i - r + k) 0 < 2 ^ w) =
    λ k l.
    let kj : j - (r - k) ≡ j - r + k = omega arith in
    let ki : i - (r - k) ≡ i - r + k = omega arith in (
      ap (λ x. get_or xs x 0) (sym kj) ∙ eq (r - k) (omega arith) ∙ ap (λ x. get_or cs x 0) ki,
      hc (i - r + k) (omega arith),
    ) in
    received_at F G F' G' ends m ivs' xs j b' hx hj
    ∙ ap (λ x. plain F G f w ivs' xs x (get_or xs x 0)) (sym ej)
    ∙ plain_rests F G f w (row m).values r (fit m) mem ivs' ivs xs cs (j - r) (i - r) b'.count b.count window
    ∙ ap (λ x. plain F G f w ivs cs x (get_or cs x 0)) ei
    ∙ sent_back F G ends.undo m ivs ps b hp i hi
