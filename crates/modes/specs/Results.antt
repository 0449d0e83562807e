-- What a mode makes of a list of units, by family, over the width w of a unit and the initial values ivs, as many as the distance δ.
-- Places count from 0: place i of a list holds unit i + 1 of a run. F is the cipher forward, G inverse.
use Rattle.std.specs.Prelude.{ℕ, zero, suc, cond, List, [], ◌∷◌, ◌++◌, length, bit_xor, nat_lt, slice_index}
use Rattle.modes.specs.declared.family.Family.{Family}
use Rattle.modes.specs.declared.family.Family.TheVariants.{Codebook, Chaining, CipherFeedback, OutputFeedback}
use Rattle.modes.specs.declared.way.Way.{Way}
use Rattle.modes.specs.declared.way.Way.TheVariants.{Enciphering, Deciphering}
use Rattle.modes.specs.declared.mode.Mode.{Mode}
use Rattle.modes.specs.Bits.{leftmost, shifted}
use Rattle.modes.specs.Table.{row}

-- the first n of a list that grows one by one, each from those so far and its place
abbrev pub grown : (List ℕ → ℕ → ℕ) → ℕ → List ℕ
grown next zero = []
grown next (suc n) = grown next n ++ next (grown next n) n ∷ []

-- what stands δ before place i of a list: the δ initial values come first
abbrev pub before : List ℕ → List ℕ → ℕ → ℕ
before ivs xs i = slice_index (ivs ++ xs) i

-- the input block of place i in cipher feedback, from the ciphered units cs: one register for all
abbrev pub register : ℕ → List ℕ → List ℕ → ℕ → ℕ
register w ivs cs zero = before ivs cs 0
register w ivs cs (suc i) =
    cond (nat_lt (suc i) (length ivs)) (before ivs cs (suc i)) (shifted w (register w ivs cs i) (before ivs cs (suc i)))

-- the first n output blocks in output feedback
abbrev pub stream : (ℕ → ℕ) → List ℕ → ℕ → List ℕ
stream F ivs n = grown (λ os i. F (before ivs os i)) n

-- the output block of place i
abbrev pub output : (ℕ → ℕ) → List ℕ → ℕ → ℕ
output F ivs i = F (before ivs (stream F ivs i) i)

-- the ciphered unit of place i, from its plain unit p and the ciphered units before it
abbrev pub ciphered : (ℕ → ℕ) → Family → ℕ → List ℕ → List ℕ → ℕ → ℕ → ℕ
ciphered F Codebook w ivs cs i p = F p
ciphered F Chaining w ivs cs i p = F (bit_xor p (before ivs cs i))
ciphered F CipherFeedback w ivs cs i p = bit_xor p (leftmost w (F (register w ivs cs i)))
ciphered F OutputFeedback w ivs cs i p = bit_xor p (output F ivs i)

-- the plain unit of place i, from its ciphered unit c and the ciphered units before it
abbrev pub plain : (ℕ → ℕ) → (ℕ → ℕ) → Family → ℕ → List ℕ → List ℕ → ℕ → ℕ → ℕ
plain F G Codebook w ivs cs i c = G c
plain F G Chaining w ivs cs i c = bit_xor (G c) (before ivs cs i)
plain F G CipherFeedback w ivs cs i c = bit_xor c (leftmost w (F (register w ivs cs i)))
plain F G OutputFeedback w ivs cs i c = bit_xor c (output F ivs i)

-- the first n ciphered units of the plain units ps
abbrev pub enciphered : (ℕ → ℕ) → Family → ℕ → List ℕ → List ℕ → ℕ → List ℕ
enciphered F f w ivs ps n = grown (λ cs i. ciphered F f w ivs cs i (slice_index ps i)) n

-- the first n plain units of the ciphered units cs
abbrev pub deciphered : (ℕ → ℕ) → (ℕ → ℕ) → Family → ℕ → List ℕ → List ℕ → ℕ → List ℕ
deciphered F G f w ivs cs n = grown (λ _ i. plain F G f w ivs cs i (slice_index cs i)) n

-- the first n results of a mode that took the units us
abbrev pub results : (ℕ → ℕ) → (ℕ → ℕ) → Mode → Way → List ℕ → List ℕ → ℕ → List ℕ
results F G m Enciphering ivs us n = enciphered F (row m).family (row m).width ivs us n
results F G m Deciphering ivs us n = deciphered F G (row m).family (row m).width ivs us n

-- all results: what was sent for the plain units ps, and what is received from the arriving units cs
abbrev pub sent : (ℕ → ℕ) → (ℕ → ℕ) → Mode → List ℕ → List ℕ → List ℕ
sent F G m ivs ps = results F G m Enciphering ivs ps (length ps)

abbrev pub received : (ℕ → ℕ) → (ℕ → ℕ) → Mode → List ℕ → List ℕ → List ℕ
received F G m ivs cs = results F G m Deciphering ivs cs (length cs)
