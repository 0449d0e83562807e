-- What an engine means: two functions on blocks, a depth, and a row of places, each empty or holding a block due.
use Rattle.std.specs.Prelude.{ℕ, ◌-◌, List, [], ◌∷◌, ◌++◌, drop, replicate, Some, None, Option, slice_index_or}
use Rattle.engines.specs.declared.work.Direction.{Direction}
use Rattle.engines.specs.declared.work.Direction.TheVariants.{Forward, Inverse}
use Rattle.engines.specs.declared.work.Work.{Work}

pub record Machine : Type 0 where
  pub forward : ℕ → ℕ
  pub inverse : ℕ → ℕ
  pub depth : ℕ
  pub row : List (Option ℕ)

-- the function that a direction asks for
abbrev pub directed : (F G : ℕ → ℕ) → Direction → ℕ → ℕ
directed F G Forward = F
directed F G Inverse = G

-- what a cycle's input becomes: a block, or an empty place
abbrev pub result : (Direction → ℕ → ℕ) → Option Work → Option ℕ
result f None = None
result f (Some work) = Some (f work.direction work.block)

-- the row once the result has joined its end
abbrev pub joined : Machine → Option Work → List (Option ℕ)
joined m input = m.row ++ result (directed m.forward m.inverse) input ∷ []

-- the front is the answer
abbrev pub answered : Machine → Option Work → Option ℕ
answered m input = slice_index_or (joined m input) 0 None

-- and the rest move up
abbrev pub turned : Machine → Option Work → Machine
turned m input = record { forward = m.forward; inverse = m.inverse; depth = m.depth; row = drop 1 (joined m input) }

-- a machine with nothing in its row
abbrev pub resting : (F G : ℕ → ℕ) → ℕ → Machine
resting F G depth = record { forward = F; inverse = G; depth = depth; row = replicate (depth - 1) None }
