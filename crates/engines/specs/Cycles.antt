-- An engine over many cycles.
use Rattle.std.specs.Prelude.{◌≡◌, ℕ, ◌+◌, ◌-◌, ◌≤◌, List, [], ◌∷◌, ◌++◌, map, length, drop, None, Option, slice_index_or}
use Rattle.engines.specs.declared.work.Work.{Work}
use Rattle.engines.specs.Machines.{Machine, directed, result, resting}

-- all that comes out in time: what stands in the row, then the result of each input
abbrev pub due : Machine → List (Option Work) → List (Option ℕ)
due m inputs = m.row ++ map (result (directed m.forward m.inverse)) inputs

-- a cycle for each input later
abbrev pub later : Machine → List (Option Work) → Machine
later m inputs = record { forward = m.forward; inverse = m.inverse; depth = m.depth; row = drop (length inputs) (due m inputs) }

-- an input comes out depth − 1 cycles after it went in
abbrev pub InTime : Machine → (inputs : List (Option Work)) (answers : List (Option ℕ)) → Type 0
InTime m inputs answers =
    (t : ℕ)
    → t + m.depth ≤ length inputs
    → t + m.depth ≤ length answers
    → slice_index_or answers (t + m.depth - 1) None ≡ result (directed m.forward m.inverse) (slice_index_or inputs t None)

-- with nothing left in the row
abbrev pub emptied : Machine → Machine
emptied m = resting m.forward m.inverse m.depth

-- a list with others written over its front, as far as it has room
abbrev pub written_over : List (Option ℕ) → List (Option ℕ) → List (Option ℕ)
written_over [] ys = ys
written_over (x ∷ xs) [] = []
written_over (x ∷ xs) (y ∷ ys) = x ∷ written_over xs ys
