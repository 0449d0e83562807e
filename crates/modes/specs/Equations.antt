-- The equations of the modes as they are published. Units count from 1: Pi is plain unit i, Ci its ciphered unit, Ii an input block,
-- Oi an output block, IVi an initial value; w is the width of a unit, δ the distance, n the number of units.
use Rattle.std.specs.Prelude.{◌≡◌, ℕ, zero, suc, ◌-◌, ◌≤◌, cond, List, length, bit_xor, nat_le, slice_index}
use Rattle.modes.specs.declared.family.Family.{Family}
use Rattle.modes.specs.declared.family.Family.TheVariants.{Codebook, Chaining, CipherFeedback, OutputFeedback}
use Rattle.modes.specs.declared.mode.Mode.{Mode}
use Rattle.modes.specs.Bits.{leftmost, shifted}
use Rattle.modes.specs.Table.{row}
use Rattle.modes.specs.Results.{sent, received}

-- unit i of a list
abbrev pub unit : List ℕ → ℕ → ℕ
unit us zero = 0
unit us (suc k) = slice_index us k

-- for i from 1 to n
abbrev pub UpTo : ℕ → (ℕ → Type 0) → Type 0
UpTo n Q = (i : ℕ) → 1 ≤ i → i ≤ n → Q i

-- Xi−δ, for which IVi stands where i ≤ δ
abbrev pub back : ℕ → (ℕ → ℕ) → (ℕ → ℕ) → ℕ → ℕ
back δ IV X i = cond (nat_le i δ) (IV i) (X (i - δ))

-- cipher feedback: Ii is IVi where i ≤ δ, else Sw(Ii−1, Ci−δ)
abbrev pub input : ℕ → ℕ → (ℕ → ℕ) → (ℕ → ℕ) → (ℕ → ℕ) → ℕ → ℕ
input w δ IV C I i = cond (nat_le i δ) (IV i) (shifted w (I (i - 1)) (C (i - δ)))

abbrev pub Enciphers : Family → (ℕ → ℕ) → ℕ → ℕ → (ℕ → ℕ) → (ℕ → ℕ) → (ℕ → ℕ) → ℕ → Type 0
Enciphers Codebook F w δ IV P C n = UpTo n (λ i. C i ≡ F (P i))
Enciphers Chaining F w δ IV P C n = UpTo n (λ i. C i ≡ F (bit_xor (P i) (back δ IV C i)))
Enciphers CipherFeedback F w δ IV P C n =
    (I : ℕ → ℕ) × (UpTo n (λ i. I i ≡ input w δ IV C I i) × UpTo n (λ i. C i ≡ bit_xor (P i) (leftmost w (F (I i)))))
Enciphers OutputFeedback F w δ IV P C n =
    (O : ℕ → ℕ) × (UpTo n (λ i. O i ≡ F (back δ IV O i)) × UpTo n (λ i. C i ≡ bit_xor (P i) (O i)))

-- the feedback families have the same equations both ways, and use the cipher forward only
abbrev pub Deciphers : Family → (ℕ → ℕ) → (ℕ → ℕ) → ℕ → ℕ → (ℕ → ℕ) → (ℕ → ℕ) → (ℕ → ℕ) → ℕ → Type 0
Deciphers Codebook F G w δ IV P C n = UpTo n (λ i. P i ≡ G (C i))
Deciphers Chaining F G w δ IV P C n = UpTo n (λ i. P i ≡ bit_xor (G (C i)) (back δ IV C i))
Deciphers CipherFeedback F G w δ IV P C n = Enciphers CipherFeedback F w δ IV P C n
Deciphers OutputFeedback F G w δ IV P C n = Enciphers OutputFeedback F w δ IV P C n

-- the lists ps and cs obey the equations of a mode, from ps to cs or from cs to ps
abbrev pub FromPlain : (ℕ → ℕ) → Mode → List ℕ → List ℕ → List ℕ → Type 0
FromPlain F m ivs ps cs = Enciphers (row m).family F (row m).width (row m).values (unit ivs) (unit ps) (unit cs) (length ps)

abbrev pub FromCiphered : (ℕ → ℕ) → (ℕ → ℕ) → Mode → List ℕ → List ℕ → List ℕ → Type 0
FromCiphered F G m ivs ps cs = Deciphers (row m).family F G (row m).width (row m).values (unit ivs) (unit ps) (unit cs) (length cs)

-- what is sent and what is received for the units us obey the equations, and no other list of that length does
pub record Obeyed (F G : ℕ → ℕ) (m : Mode) (ivs us : List ℕ) : Type 0 where
  pub sends : FromPlain F m ivs us (sent F G m ivs us)
  pub sends_only : (cs : List ℕ) → length cs ≡ length us → FromPlain F m ivs us cs → cs ≡ sent F G m ivs us
  pub receives : FromCiphered F G m ivs (received F G m ivs us) us
  pub receives_only : (ps : List ℕ) → length ps ≡ length us → FromCiphered F G m ivs ps us → ps ≡ received F G m ivs us

abbrev pub Equations : Type 0
Equations = (F G : ℕ → ℕ) (m : Mode) (ivs us : List ℕ) → length ivs ≡ (row m).values → Obeyed F G m ivs us
