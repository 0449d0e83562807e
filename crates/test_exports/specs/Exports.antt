-- What the calls for tests and measurements do with a list of blocks.
use Rattle.std.specs.Prelude.{ℕ, cond, List, map, Ok, Err, Result, ◌==◌}
use Rattle.refusals.specs.declared.Refusal.{Refusal}
use Rattle.refusals.specs.Refusals.{number_of}
use Rattle.cipher.specs.Dea.{triple_dea, triple_dea_inverse}
use Rattle.keys.specs.Loading.{bundle_loaded}

-- forward where the flag is 0, else inverse
abbrev pub either : ℕ → (ℕ → ℕ) → (ℕ → ℕ) → ℕ → ℕ
either inverse F G b = cond (inverse == 0) (F b) (G b)

-- 0, or the number of the refusal
abbrev pub answer_of : Result (ℕ × ℕ × ℕ) Refusal → ℕ
answer_of (Ok ws) = 0
answer_of (Err e) = number_of e

abbrev pub answered : List ℕ → ℕ
answered keys = answer_of (bundle_loaded keys)

-- the blocks under the three words, or as they were
abbrev pub turned : ℕ → Result (ℕ × ℕ × ℕ) Refusal → List ℕ → List ℕ
turned inverse (Ok ws) blocks = map (either inverse (triple_dea ws.0 ws.1 ws.2) (triple_dea_inverse ws.0 ws.1 ws.2)) blocks
turned inverse (Err e) blocks = blocks

abbrev pub blocks_after : ℕ → List ℕ → List ℕ → List ℕ
blocks_after inverse keys blocks = turned inverse (bundle_loaded keys) blocks
