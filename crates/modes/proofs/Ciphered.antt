-- Ciphered and plain units, one place at a time and over lists.
use Rattle.std.proofs.Common.{◌≡◌, ℕ, zero, suc, ◌+◌, ◌-◌, ◌*◌, ◌/◌, ◌^◌, ◌<◌, ◌≤◌, List, length, get_or, sym, refl, ap, ◌∙◌, arith}
use lib.Bits.{bit_xor}
use Rattle.std.proofs.lemmas.Nat.{xor_lt, shr_below}
use Rattle.std.proofs.lemmas.List.{ext_get_or}
use Rattle.cipher.specs.Undoing.{Undo}
use Rattle.modes.specs.declared.family.Family.{Family}
use Rattle.modes.specs.declared.family.Family.TheVariants.{Codebook, Chaining, CipherFeedback, OutputFeedback}
use Rattle.modes.specs.Bits.{leftmost}
use Rattle.modes.specs.Values.{Units}
use Rattle.modes.specs.Results.{before, register, stream, output, ciphered, plain, enciphered, deciphered}
use Rattle.modes.proofs.Xor.{xor_twice}
use Rattle.modes.proofs.Grown.{length_grown, grown_at, grown_agree, units_grown}
use Rattle.modes.proofs.Fits.{Fit, as_block, as_unit, width_le}
use Rattle.modes.proofs.Registers.{before_same, before_below, register_same, register_below}

-- a plain unit sees the ciphered units up to the distance before it
pub plain_same : (F G : ℕ → ℕ) (f : Family) (w : ℕ) (ivs xs ys : List ℕ) (i c : ℕ) → ((j : ℕ) → length ivs + j ≤ i → get_or xs j 0 ≡ get_or ys j 0)
    → plain F G f w ivs xs i c ≡ plain F G f w ivs ys i c
plain_same F G Codebook w ivs xs ys i c h = refl
plain_same F G Chaining w ivs xs ys i c h = rw (before_same ivs xs ys i (λ j e. h j (omega arith)))
plain_same F G CipherFeedback w ivs xs ys i c h = rw (register_same w ivs xs ys i h)
plain_same F G OutputFeedback w ivs xs ys i c h = refl

-- a ciphered unit sees those before it
ciphered_same : (F : ℕ → ℕ) (f : Family) (w δ : ℕ) (ivs xs ys : List ℕ) (i p : ℕ) → Fit f w δ → length ivs ≡ δ
    → ((j : ℕ) → j < i → get_or xs j 0 ≡ get_or ys j 0) → ciphered F f w ivs xs i p ≡ ciphered F f w ivs ys i p
ciphered_same F Codebook w δ ivs xs ys i p fit len h = refl
ciphered_same F Chaining w δ ivs xs ys i p fit len h = rw (before_same ivs xs ys i (λ j e. h j (omega arith)))
ciphered_same F CipherFeedback w δ ivs xs ys i p fit len h = rw (register_same w ivs xs ys i (λ j l. h j (omega arith)))
ciphered_same F OutputFeedback w δ ivs xs ys i p fit len h = refl

-- each ciphered unit comes from its plain unit and the whole list
pub enciphered_at : (F : ℕ → ℕ) (f : Family) (w δ : ℕ) (ivs ps : List ℕ) (n i : ℕ) → Fit f w δ → length ivs ≡ δ → i < n
    → get_or (enciphered F f w ivs ps n) i 0 ≡ ciphered F f w ivs (enciphered F f w ivs ps n) i (get_or ps i 0)
enciphered_at F f w δ ivs ps n i fit len h =
    let next : List ℕ → ℕ → ℕ = λ cs k. ciphered F f w ivs cs k (get_or ps k 0) in
    grown_at next n i h
    ∙ ciphered_same F f w δ ivs (enciphered F f w ivs ps i) (enciphered F f w ivs ps n) i (get_or ps i 0) fit len
    (λ j l. grown_agree next i n j l (omega arith))

-- and no other list of that length does so
pub enciphered_only : (F : ℕ → ℕ) (f : Family) (w δ : ℕ) (ivs ps cs : List ℕ) (n : ℕ) → Fit f w δ → length ivs ≡ δ → length cs ≡ n
    → ((i : ℕ) → i < n → get_or cs i 0 ≡ ciphered F f w ivs cs i (get_or ps i 0)) → cs ≡ enciphered F f w ivs ps n
enciphered_only F f w δ ivs ps cs n fit len long h = ext_get_or 0 cs (enciphered F f w ivs ps n) (long ∙ sym (length_grown (λ xs k. ciphered F f w ivs xs k (get_or ps k 0)) n)) (λ i l. up_to n (omega arith) i (omega arith))
  where
    up_to : (k : ℕ) → k ≤ n → (i : ℕ) → i < k → get_or cs i 0 ≡ get_or (enciphered F f w ivs ps n) i 0
    up_to zero hk i l = absurd (omega arith)
    up_to (suc k) hk i l =
        h i (omega arith)
        ∙ ciphered_same F f w δ ivs cs (enciphered F f w ivs ps n) i (get_or ps i 0) fit len (λ j q. up_to k (omega arith) j (omega arith))
        ∙ sym (enciphered_at F f w δ ivs ps n i fit len (omega arith))

module _ (F G : ℕ → ℕ) (u : Undo F G) where
  pub stream_blocks : (ivs : List ℕ) (n : ℕ) → 0 < length ivs → Units 64 ivs → Units 64 (stream F ivs n)
  stream_blocks ivs n pos b =
      units_grown (λ os i. F (before ivs os i)) 64 n
      (λ i l h. let len = length_grown (λ os k. F (before ivs os k)) i in
      u.forward_is_block _ (before_below 64 ivs (stream F ivs i) i b h (omega arith)))

  pub output_block : (ivs : List ℕ) (i : ℕ) → 0 < length ivs → Units 64 ivs → before ivs (stream F ivs i) i < 2 ^ 64
  output_block ivs i pos b =
      let len = length_grown (λ os k. F (before ivs os k)) i in
      before_below 64 ivs (stream F ivs i) i b (stream_blocks ivs i pos b) (omega arith)

  module _ (w δ : ℕ) (ivs xs : List ℕ) (len : length ivs ≡ δ) (b : Units 64 ivs) (h : Units w xs) where
    -- what a chaining mode joins is a block
    joined_block : w ≡ 64 → (i x : ℕ) → 0 < δ → i ≤ length xs → x < 2 ^ 64 → bit_xor x (before ivs xs i) < 2 ^ 64
    joined_block e i x pos l hx =
        xor_lt 64 x (before ivs xs i) hx (before_below 64 ivs xs i b (λ k q. as_block e (get_or xs k 0) (h k q)) (omega arith))

    -- a unit joined with the key stream of cipher feedback is a unit
    masked_unit : w * (64 / w) ≡ 64 → (i x : ℕ) → 0 < δ → x < 2 ^ w → bit_xor x (leftmost w (F (register w ivs xs i))) < 2 ^ w
    masked_unit e i x pos hx =
        let y = F (register w ivs xs i) in
        let hy : y < 2 ^ 64 = u.forward_is_block _ (register_below w ivs xs i (omega arith) b) in
        let le : w ≤ 64 = width_le w (64 / w) e in
        let sum : w + (64 - w) ≡ 64 = omega arith in
        xor_lt w x (leftmost w y) hx (shr_below y w (64 - w) (rw sum hy))

    -- a unit joined with an output block is a unit
    output_unit : w ≡ 64 → (i x : ℕ) → 0 < δ → x < 2 ^ w → bit_xor x (output F ivs i) < 2 ^ w
    output_unit e i x pos hx =
        as_unit e _ (xor_lt 64 x (output F ivs i) (as_block e x hx) (u.forward_is_block _ (output_block ivs i (omega arith) b)))

    pub ciphered_unit : (f : Family) (i p : ℕ) → Fit f w δ → i ≤ length xs → p < 2 ^ w → ciphered F f w ivs xs i p < 2 ^ w
    ciphered_unit Codebook i p fit l hp = as_unit fit _ (u.forward_is_block p (as_block fit p hp))
    ciphered_unit Chaining i p fit l hp = as_unit fit.0 _ (u.forward_is_block _ (joined_block fit.0 i p fit.1 l (as_block fit.0 p hp)))
    ciphered_unit CipherFeedback i p fit l hp = masked_unit fit.0 i p fit.1 hp
    ciphered_unit OutputFeedback i p fit l hp = output_unit fit.0 i p fit.1 hp

    pub plain_unit : (f : Family) (i c : ℕ) → Fit f w δ → i ≤ length xs → c < 2 ^ w → plain F G f w ivs xs i c < 2 ^ w
    plain_unit Codebook i c fit l hc = as_unit fit _ (u.inverse_is_block c (as_block fit c hc))
    plain_unit Chaining i c fit l hc =
        as_unit fit.0 _ (joined_block fit.0 i (G c) fit.1 l (u.inverse_is_block c (as_block fit.0 c hc)))
    plain_unit CipherFeedback i c fit l hc = masked_unit fit.0 i c fit.1 hc
    plain_unit OutputFeedback i c fit l hc = output_unit fit.0 i c fit.1 hc

    -- deciphering undoes enciphering, place by place
    pub plain_of_ciphered : (f : Family) (i p : ℕ) → Fit f w δ → i ≤ length xs → p < 2 ^ w → plain F G f w ivs xs i (ciphered F f w ivs xs i p) ≡ p
    plain_of_ciphered Codebook i p fit l hp = u.back p (as_block fit p hp)
    plain_of_ciphered Chaining i p fit l hp =
        ap (λ y. bit_xor y (before ivs xs i)) (u.back _ (joined_block fit.0 i p fit.1 l (as_block fit.0 p hp)))
        ∙ xor_twice p (before ivs xs i)
    plain_of_ciphered CipherFeedback i p fit l hp = xor_twice p (leftmost w (F (register w ivs xs i)))
    plain_of_ciphered OutputFeedback i p fit l hp = xor_twice p (output F ivs i)

  module _ (f : Family) (w δ : ℕ) (fit : Fit f w δ) (ivs us : List ℕ) (len : length ivs ≡ δ) (b : Units 64 ivs) (h : Units w us) (n : ℕ) (hn : n ≤ length us) where
    pub enciphered_units : Units w (enciphered F f w ivs us n)
    enciphered_units =
        units_grown (λ cs i. ciphered F f w ivs cs i (get_or us i 0)) w n
        (λ i l hc. let so_far = length_grown (λ cs k. ciphered F f w ivs cs k (get_or us k 0)) i in
        ciphered_unit w δ ivs (enciphered F f w ivs us i) len b hc f i (get_or us i 0) fit (omega arith) (h i (omega arith)))

    pub deciphered_units : Units w (deciphered F G f w ivs us n)
    deciphered_units =
        units_grown (λ _ i. plain F G f w ivs us i (get_or us i 0)) w n
        (λ i l _. plain_unit w δ ivs us len b h f i (get_or us i 0) fit (omega arith) (h i (omega arith)))

    -- what was enciphered deciphers to its plain unit
    pub deciphers_back : (i : ℕ) → i < n → plain F G f w ivs (enciphered F f w ivs us n) i (get_or (enciphered F f w ivs us n) i 0) ≡ get_or us i 0
    deciphers_back i l =
        let cs = enciphered F f w ivs us n in
        let whole = length_grown (λ xs k. ciphered F f w ivs xs k (get_or us k 0)) n in
        ap (plain F G f w ivs cs i) (enciphered_at F f w δ ivs us n i fit len l)
        ∙ plain_of_ciphered w δ ivs cs len b enciphered_units f i (get_or us i 0) fit (omega arith) (h i (omega arith))
