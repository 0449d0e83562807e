-- The two functions on blocks that single DEA means, by the round keys that it holds.
use Rattle.std.specs.Prelude.{ℕ, reverse}
use Rattle.cipher.specs.declared.dea.Dea.{Dea}
use Rattle.cipher.specs.declared.triple.Triple.{Triple}
use Rattle.cipher.specs.Rounds.{under}
use Rattle.cipher.specs.Triples.{in_row}

abbrev pub forward_of : Dea → ℕ → ℕ
forward_of d = under d.round_keys

abbrev pub inverse_of : Dea → ℕ → ℕ
inverse_of d = under (reverse d.round_keys)

-- and those of the triple of three
abbrev pub triple_forward_of : Triple Dea Dea Dea → ℕ → ℕ
triple_forward_of t = in_row (forward_of t.first) (inverse_of t.second) (forward_of t.third)

abbrev pub triple_inverse_of : Triple Dea Dea Dea → ℕ → ℕ
triple_inverse_of t = in_row (inverse_of t.third) (forward_of t.second) (inverse_of t.first)
