-- What the modes promise a receiver. The sender has F and G, the receiver F' and G'; places of a list count from 0.
use Rattle.std.specs.Prelude.{◌≡◌, ℕ, ◌+◌, ◌-◌, ◌^◌, ◌<◌, ◌≤◌, List, ◌++◌, length, take, Some, None, Option, ◌≢◌, bit_xor, slice_index}
use Rattle.cipher.specs.Undoing.{Undo}
use Rattle.modes.specs.declared.family.Family.{Family}
use Rattle.modes.specs.declared.family.Family.TheVariants.{Codebook, Chaining, CipherFeedback, OutputFeedback}
use Rattle.modes.specs.declared.way.Way.{Way}
use Rattle.modes.specs.declared.reach.Reach.{Reach}
use Rattle.modes.specs.declared.mode.Mode.{Mode}
use Rattle.modes.specs.Table.{row, memory_of, reach_of}
use Rattle.modes.specs.Values.{Units, Begins}
use Rattle.modes.specs.Results.{results, sent, received}

-- the two ends have ciphers that undo each other and are the same at every block
pub record Ends (F G F' G' : ℕ → ℕ) : Type 0 where
  pub undo : Undo F G
  pub forward : (b : ℕ) → b < 2 ^ 64 → F' b ≡ F b
  pub inverse : (b : ℕ) → b < 2 ^ 64 → G' b ≡ G b

-- a list of units gives as many units
abbrev pub UnitsGiveUnits : Type 0
UnitsGiveUnits =
    (F G : ℕ → ℕ) → Undo F G → (m : Mode) (way : Way) (ivs us : List ℕ) → Begins m ivs → Units (row m).width us
    → (length (results F G m way ivs us (length us)) ≡ length us) × Units (row m).width (results F G m way ivs us (length us))

-- prefix: what a longer list gives begins with what a shorter one gives
abbrev pub Prefix : Type 0
Prefix =
    (F G : ℕ → ℕ) (m : Mode) (way : Way) (ivs us more : List ℕ)
    → take (length us) (results F G m way ivs (us ++ more) (length (us ++ more))) ≡ results F G m way ivs us (length us)

-- restoring: deciphering what was enciphered gives back every list of units
abbrev pub Restoring : Type 0
Restoring =
    (F G F' G' : ℕ → ℕ) → Ends F G F' G' → (m : Mode) (ivs ps : List ℕ) → Begins m ivs → Units (row m).width ps
    → received F' G' m ivs (sent F G m ivs ps) ≡ ps

-- recovery, in a mode of memory r: where arriving places j − r to j equal sent places i − r to i, the plain unit received at place j is the
-- sender's at place i, whatever the initial values of either side
abbrev pub Recovery : Type 0
Recovery =
    (F G F' G' : ℕ → ℕ) → Ends F G F' G' → (m : Mode) (r : ℕ) → memory_of m ≡ Some r
    → (ivs ivs' ps xs : List ℕ) → Begins m ivs → Begins m ivs' → Units (row m).width ps → Units (row m).width xs
    → (i j : ℕ) → r ≤ i → i < length ps → r ≤ j → j < length xs
    → ((k : ℕ) → k ≤ r → slice_index xs (j - k) ≡ slice_index (sent F G m ivs ps) (i - k))
    → slice_index (received F' G' m ivs' xs) j ≡ slice_index ps i

-- place i lies in the reach of place d
abbrev pub InReach : Option Reach → ℕ → ℕ → Type 0
InReach None d i = ⊥
InReach (Some reach) d i = (d + reach.first ≤ i) × (i ≤ d + reach.last)

-- how the plain unit of the altered place is wrong: p is the sender's, q the receiver's, e what was altered
abbrev pub Struck : Family → ℕ → ℕ → ℕ → Type 0
Struck Codebook p q e = q ≡ p → ⊥
Struck Chaining p q e = q ≡ p → ⊥
Struck CipherFeedback p q e = q ≡ bit_xor p e
Struck OutputFeedback p q e = q ≡ bit_xor p e

-- how a plain unit in reach is wrong: in cipher feedback with units shorter than a block, it may be
abbrev pub Reached : Family → ℕ → ℕ → ℕ → ℕ → Type 0
Reached Codebook w p q e = ⊥
Reached Chaining w p q e = q ≡ bit_xor p e
Reached CipherFeedback w p q e = w ≡ 64 → q ≢ p
Reached OutputFeedback w p q e = ⊥

-- plain units qs received in place of ps, with the ciphered unit of place d altered by e
pub record Damaged (m : Mode) (ps qs : List ℕ) (d e : ℕ) : Type 0 where
  pub right : (i : ℕ) → i < length qs → (i ≢ d) → (InReach (reach_of m) d i → ⊥) → slice_index qs i ≡ slice_index ps i
  pub struck : Struck (row m).family (slice_index ps d) (slice_index qs d) e
  pub reached : (i : ℕ) → i < length qs → InReach (reach_of m) d i → Reached (row m).family (row m).width (slice_index ps i) (slice_index qs i) e

-- damage: the initial values agree, and the arriving units are the first sent ones in order, with exactly one altered
abbrev pub Damage : Type 0
Damage =
    (F G F' G' : ℕ → ℕ) → Ends F G F' G' → (m : Mode) (ivs ps xs : List ℕ) → Begins m ivs → Units (row m).width ps → Units (row m).width xs
    → length xs ≤ length ps → (d : ℕ) → d < length xs
    → ((i : ℕ) → i < length xs → (i ≢ d) → slice_index xs i ≡ slice_index (sent F G m ivs ps) i)
    → (slice_index xs d ≢ slice_index (sent F G m ivs ps) d)
    → Damaged m ps (received F' G' m ivs xs) d (bit_xor (slice_index (sent F G m ivs ps) d) (slice_index xs d))
