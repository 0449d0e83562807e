-- An engine over many cycles, one cycle at a time.
use Rattle.std.proofs.Common.{◌≡◌, ℕ, zero, suc, ◌+◌, ◌-◌, ◌<◌, List, [], ◌∷◌, ◌++◌, map, length, get_or, take, drop, set, replicate, None, Option, refl, ap, ◌∙◌, add-one, arith}
use Rattle.std.proofs.lemmas.List.{drop-drop, get_or-append-add, length_push, map-append, take-append-drop, take_more}
use Rattle.std.proofs.lemmas.Grind.{common_steps}
use Rattle.engines.specs.declared.work.Work.{Work}
use Rattle.engines.specs.Machines.{Machine, answered, directed, result, turned}
use Rattle.engines.specs.Cycles.{due, emptied, InTime, later, written_over}

-- one more is written over
written_over_more : (xs ys : List (Option ℕ)) (i : ℕ) (d : Option ℕ) → i < length xs
    → set (written_over (take i xs) ys) i (get_or xs i d) ≡ written_over (take (suc i) xs) ys
written_over_more [] ys i d h = absurd (omega arith)
written_over_more (x ∷ xs) [] zero d h = refl
written_over_more (x ∷ xs) [] (suc i) d h = refl
written_over_more (x ∷ xs) (y ∷ ys) zero d h = refl
written_over_more (x ∷ xs) (y ∷ ys) (suc i) d h = ap (λ zs. x ∷ zs) (written_over_more xs ys i d (omega arith))

-- what is written over is read again
get_or_written_over : (xs ys : List (Option ℕ)) (i : ℕ) (d : Option ℕ) → i < length xs → i < length ys → get_or (written_over xs ys) i d ≡ get_or xs i d
get_or_written_over [] ys i d h k = absurd (omega arith)
get_or_written_over (x ∷ xs) [] i d h k = absurd (omega arith)
get_or_written_over (x ∷ xs) (y ∷ ys) zero d h k = refl
get_or_written_over (x ∷ xs) (y ∷ ys) (suc i) d h k = get_or_written_over xs ys i d (omega arith) (omega arith)

-- the row after some cycles, with one more result at its end
joined_later : (m : Machine) (inputs : List (Option Work)) (input : Option Work)
    → drop (length inputs) (due m inputs) ++ result (directed m.forward m.inverse) input ∷ [] ≡ drop (length inputs) (due m (inputs ++ input ∷ []))
joined_later m inputs input = grind (arith, common_steps)

turned_later : (m : Machine) (inputs : List (Option Work)) (input : Option Work) → turned (later m inputs) input ≡ later m (inputs ++ input ∷ [])
turned_later m inputs input =
    ap (λ row. record { forward = m.forward; inverse = m.inverse; depth = m.depth; row = row })
    (rw (joined_later m inputs input, drop-drop, length_push))

answered_later : (m : Machine) (inputs : List (Option Work)) (input : Option Work)
    → answered (later m inputs) input ≡ get_or (due m (inputs ++ input ∷ [])) (length inputs) None
answered_later m inputs input = grind (arith, common_steps, joined_later)

-- the front of what is due rests on the first inputs alone
due_at_first : (m : Machine) (inputs : List (Option Work)) (k i : ℕ) → i < length (due m (take k inputs)) → get_or (due m (take k inputs)) i None ≡ get_or (due m inputs) i None
due_at_first m inputs k i h =
    let f = result (directed m.forward m.inverse) in
    let e : due m inputs ≡ due m (take k inputs) ++ map f (drop k inputs) = grind (arith, common_steps, map-append f (take k inputs) (drop k inputs), take-append-drop k inputs) in
    rw e (grind (arith, common_steps))

-- one more cycle
pub later_more : (m m1 m2 : Machine) (inputs : List (Option Work)) (i : ℕ) → i < length inputs
    → m1 ≡ later m (take i inputs)
    → m2 ≡ turned m1 (get_or inputs i None)
    → m2 ≡ later m (take (i + 1) inputs)
later_more m m1 m2 inputs i h now then = grind (arith, common_steps, turned_later)

-- and what it answers
answered_more : (m m1 : Machine) (inputs : List (Option Work)) (i : ℕ) → i < length inputs
    → m1 ≡ later m (take i inputs)
    → answered m1 (get_or inputs i None) ≡ get_or (due m inputs) i None
answered_more m m1 inputs i h now =
    let x = get_or inputs i None in
    let k : i < length (due m (take (i + 1) inputs)) = grind (arith, common_steps) in
    rw now (grind (arith, common_steps, answered_later m (take i inputs) x, take_more inputs i None h, due_at_first m inputs (i + 1) i k))

-- which is written down behind what was written before
pub answers_more : (m m1 : Machine) (inputs : List (Option Work)) (ys zs zs' : List (Option ℕ)) (answer : Option ℕ) (i : ℕ) → i < length inputs
    → m1 ≡ later m (take i inputs)
    → answer ≡ answered m1 (get_or inputs i None)
    → zs ≡ written_over (take i (due m inputs)) ys
    → zs' ≡ set zs i answer
    → zs' ≡ written_over (take (i + 1) (due m inputs)) ys
answers_more m m1 inputs ys zs zs' answer i h now is before after =
    let k : i < length (due m inputs) = grind (arith, common_steps) in
    rw (after, is ∙ answered_more m m1 inputs i h now, before, add-one) (written_over_more (due m inputs) ys i None k)

length_written_over : (xs ys : List (Option ℕ)) → length (written_over xs ys) ≡ length ys
length_written_over [] ys = refl
length_written_over (x ∷ xs) [] = refl
length_written_over (x ∷ xs) (y ∷ ys) = ap suc (length_written_over xs ys)

pub in_time : (m : Machine) (inputs : List (Option Work)) (ys : List (Option ℕ)) → length m.row + 1 ≡ m.depth
    → InTime m inputs (written_over (take (length inputs) (due m inputs)) ys)
in_time m inputs ys p t h k =
    let n = length inputs in
    let f = result (directed m.forward m.inverse) in
    let xs = take n (due m inputs) in
    let i : t + m.depth - 1 ≡ length m.row + t = omega arith in
    let b : length m.row + t < length xs = grind (arith, common_steps) in
    let d : length m.row + t < length ys = omega (arith, length_written_over xs ys) in
    rw (i, get_or_written_over xs ys (length m.row + t) None b d) (grind (arith, common_steps, get_or-append-add m.row (map f inputs) t None))

-- as many empty cycles as the row has places
map_nothing : (f : Option Work → Option ℕ) (n : ℕ) → f None ≡ None → map f (replicate n None) ≡ replicate n None
map_nothing f zero e = refl
map_nothing f (suc n) e = rw (e, map_nothing f n e)

pub row_left_empty : (m m' : Machine) (nothing : List (Option Work))
    → nothing ≡ replicate (length m.row) None
    → length m.row + 1 ≡ m.depth
    → m' ≡ later m nothing
    → m' ≡ emptied m
row_left_empty m m' nothing e p after = grind (arith, common_steps, map_nothing)
