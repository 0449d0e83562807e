-- The DEA under a key, and the triple under three. The inverse takes the round keys backwards.
use Rattle.std.specs.Prelude.{ℕ, reverse}
use Rattle.cipher.specs.Rounds.{under}
use Rattle.cipher.specs.KeySchedule.{round_keys_of}
use Rattle.cipher.specs.Triples.{in_row}

abbrev pub dea : ℕ → ℕ → ℕ
dea key = under (round_keys_of key)

abbrev pub dea_inverse : ℕ → ℕ → ℕ
dea_inverse key = under (reverse (round_keys_of key))

abbrev pub triple_dea : ℕ → ℕ → ℕ → ℕ → ℕ
triple_dea k1 k2 k3 = in_row (dea k1) (dea_inverse k2) (dea k3)

abbrev pub triple_dea_inverse : ℕ → ℕ → ℕ → ℕ → ℕ
triple_dea_inverse k1 k2 k3 = in_row (dea_inverse k3) (dea k2) (dea_inverse k1)
