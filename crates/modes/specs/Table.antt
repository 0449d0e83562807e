-- The table of the modes. What a row does not hold follows from its family, width and number of initial values.
use Rattle.std.specs.Prelude.{◌≡◌, ℕ, ◌+◌, ◌-◌, ◌/◌, cond, List, [], ◌∷◌, Some, None, codes, Option, Result, ◌==◌}
use Rattle.std.specs.Option.{ok_or}
use Rattle.refusals.specs.declared.Refusal.{Refusal}
use Rattle.refusals.specs.declared.Refusal.TheVariants.{UnknownCode}
use Rattle.modes.specs.declared.family.Family.{Family}
use Rattle.modes.specs.declared.family.Family.TheVariants.{Codebook, Chaining, CipherFeedback, OutputFeedback}
use Rattle.modes.specs.declared.way.Way.{Way}
use Rattle.modes.specs.declared.way.Way.TheVariants.{Enciphering, Deciphering}
use Rattle.modes.specs.declared.reach.Reach.{Reach}
use Rattle.modes.specs.declared.mode.Mode.{Mode}
use Rattle.modes.specs.declared.mode.Mode.TheVariants.{Ecb, Cbc, CbcInterleaved, Cfb64, Cfb8, Cfb1, CfbPipelined64, CfbPipelined8, CfbPipelined1, Ofb, OfbInterleaved}

-- a code, a family, the bits of a unit, and the number of initial values, which is the distance of the equations
pub record Figures : Type 0 where
  pub code : ℕ
  pub family : Family
  pub width : ℕ
  pub values : ℕ

abbrev pub row : Mode → Figures
row Ecb = record { code = 1; family = Codebook; width = 64; values = 0 }
row Cbc = record { code = 2; family = Chaining; width = 64; values = 1 }
row CbcInterleaved = record { code = 3; family = Chaining; width = 64; values = 3 }
row Cfb64 = record { code = 4; family = CipherFeedback; width = 64; values = 1 }
row Cfb8 = record { code = 5; family = CipherFeedback; width = 8; values = 1 }
row Cfb1 = record { code = 6; family = CipherFeedback; width = 1; values = 1 }
row CfbPipelined64 = record { code = 7; family = CipherFeedback; width = 64; values = 3 }
row CfbPipelined8 = record { code = 8; family = CipherFeedback; width = 8; values = 3 }
row CfbPipelined1 = record { code = 9; family = CipherFeedback; width = 1; values = 3 }
row Ofb = record { code = 10; family = OutputFeedback; width = 64; values = 1 }
row OfbInterleaved = record { code = 11; family = OutputFeedback; width = 64; values = 3 }

-- the name, in bytes
abbrev pub named : Mode → List ℕ
named Ecb = codes "TECB"
named Cbc = codes "TCBC"
named CbcInterleaved = codes "TCBC-I"
named Cfb64 = codes "TCFB"
named Cfb8 = codes "TCFB"
named Cfb1 = codes "TCFB"
named CfbPipelined64 = codes "TCFB-P"
named CfbPipelined8 = codes "TCFB-P"
named CfbPipelined1 = codes "TCFB-P"
named Ofb = codes "TOFB"
named OfbInterleaved = codes "TOFB-I"

-- the first of some modes with a code
abbrev pub first_with : ℕ → List Mode → Option Mode
first_with code [] = None
first_with code (m ∷ ms) = cond (code == (row m).code) (Some m) (first_with code ms)

abbrev pub modes : List Mode
modes = Ecb ∷ Cbc ∷ CbcInterleaved ∷ Cfb64 ∷ Cfb8 ∷ Cfb1 ∷ CfbPipelined64 ∷ CfbPipelined8 ∷ CfbPipelined1 ∷ Ofb ∷ OfbInterleaved ∷ []

abbrev pub with_code : ℕ → Option Mode
with_code code = first_with code modes

-- the mode that a code names, or the refusal that tells the code
abbrev pub mode_of_code : ℕ → Result Mode Refusal
mode_of_code code = ok_or (with_code code) (UnknownCode code)

-- each mode has a code that names it and no other
abbrev pub CodesNameModes : Type 0
CodesNameModes = (m : Mode) → with_code (row m).code ≡ Some m

-- how far back the result lies that a unit waits for: a unit that is enciphered joins the ciphered unit δ before it, and in
-- output feedback each way needs the output block δ before
abbrev pub distance : Family → Way → ℕ → Option ℕ
distance Codebook way δ = None
distance Chaining Enciphering δ = Some δ
distance Chaining Deciphering δ = None
distance CipherFeedback Enciphering δ = Some δ
distance CipherFeedback Deciphering δ = None
distance OutputFeedback way δ = Some δ

-- how many ciphered units before its own a plain unit rests on; in output feedback it rests on its place
abbrev pub memory : Family → ℕ → ℕ → Option ℕ
memory Codebook w δ = Some 0
memory Chaining w δ = Some δ
memory CipherFeedback w δ = Some (64 / w + δ - 1)
memory OutputFeedback w δ = None

-- which plain units behind it a ciphered unit is used for
abbrev pub reach : Family → ℕ → ℕ → Option Reach
reach Codebook w δ = None
reach Chaining w δ = Some (record { first = δ; last = δ })
reach CipherFeedback w δ = Some (record { first = δ; last = δ + 64 / w - 1 })
reach OutputFeedback w δ = None

-- the same of a mode
abbrev pub distance_of : Mode → Way → Option ℕ
distance_of m way = distance (row m).family way (row m).values

abbrev pub memory_of : Mode → Option ℕ
memory_of m = memory (row m).family (row m).width (row m).values

abbrev pub reach_of : Mode → Option Reach
reach_of m = reach (row m).family (row m).width (row m).values
