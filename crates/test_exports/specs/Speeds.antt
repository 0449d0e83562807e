-- What is gathered of the numbers from i on: through an engine that is clocked with them, and by three calls.
use Rattle.std.specs.Prelude.{ℕ, zero, suc, ◌+◌, List, Some, Ok, Err, Result, bit_xor}
use Rattle.std.specs.Option.{unwrap_or}
use Rattle.refusals.specs.declared.Refusal.{Refusal}
use Rattle.cipher.specs.declared.dea.Dea.{Dea}
use Rattle.cipher.specs.Dea.{triple_dea, triple_dea_inverse}
use Rattle.cipher.specs.Functions.{forward_of, inverse_of}
use Rattle.cipher.specs.Triples.{in_row}
use Rattle.engines.specs.declared.work.Direction.TheVariants.{Forward}
use Rattle.engines.specs.Machines.{Machine, answered, turned, resting}
use Rattle.keys.specs.Loading.{bundle_loaded}

-- n cycles more
abbrev pub gathered : ℕ → ℕ → Machine → ℕ → ℕ
gathered zero i m all = all
gathered (suc n) i m all =
    gathered n (i + 1) (turned m (Some (record { block = i; direction = Forward }))) (bit_xor all (unwrap_or (answered m (Some (record { block = i; direction = Forward }))) 0))

-- n numbers more
abbrev pub summed : ℕ → ℕ → (ℕ → ℕ) → ℕ → ℕ
summed zero i F all = all
summed (suc n) i F all = summed n (i + 1) F (bit_xor all (F i))

abbrev pub called : ℕ → ℕ → Dea → Dea → Dea → ℕ → ℕ
called n i a b c all = summed n i (in_row (forward_of a) (inverse_of b) (forward_of c)) all

abbrev pub by_line : Result (ℕ × ℕ × ℕ) Refusal → ℕ → ℕ
by_line (Ok ws) n = gathered n 0 (resting (triple_dea ws.0 ws.1 ws.2) (triple_dea_inverse ws.0 ws.1 ws.2) 3) 0
by_line (Err e) n = 0

abbrev pub by_calls : Result (ℕ × ℕ × ℕ) Refusal → ℕ → ℕ
by_calls (Ok ws) n = summed n 0 (triple_dea ws.0 ws.1 ws.2) 0
by_calls (Err e) n = 0

abbrev pub line_gathered : List ℕ → ℕ → ℕ
line_gathered keys n = by_line (bundle_loaded keys) n

abbrev pub calls_gathered : List ℕ → ℕ → ℕ
calls_gathered keys n = by_calls (bundle_loaded keys) n
