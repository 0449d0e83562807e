use Rattle.std.proofs.Common.{◌≡◌, ℕ, ◌+◌, ◌%◌, Bool, cond, eqb, List, [], ◌∷◌, Some, position, refl, ap, ◌∙◌, rules, tests}
use lib.Count.{ones}
use Rattle.std.specs.List.{position_from}
use Rattle.std.proofs.lemmas.Iterator.{YieldsList-from_slice}
use Rattle.std.proofs.lemmas.Iterator.Adapters.{position_from-zero}
use Rattle.std.proofs.lemmas.Iterator.Search.{position_from_yields_List}
use Rattle.keys.specs.Parity.{first_even}
use Rattle.keys.proofs.parity.first_even_byte.Goals as goal

abbrev is_even : ℕ → Bool
is_even byte = eqb (ones byte % 2) 0

first_from : (i : ℕ) (bytes : List ℕ) → position_from is_even i bytes ≡ first_even i bytes
first_from i [] = refl
first_from i (b ∷ bytes) = ap (cond (is_even b) (Some i)) (first_from (i + 1) bytes)

pub returns : goal.returns
returns c =
    let bytes : List ℕ = c.args.bytes.now in
    let found : c.position.result ≡ position is_even bytes =
    position_from_yields_List is_even _ _ c.position.result c.position.ensures.ran (YieldsList-from_slice bytes c.iter.ensures.rest)
    (λ x b q k. search (rules, tests)) in
    found ∙ position_from-zero is_even bytes ∙ first_from 0 bytes
