-- Units written behind each other into an output list.
use Rattle.std.proofs.Common.{◌≡◌, ℕ, ◌+◌, ◌<◌, List, [], ◌∷◌, ◌++◌, map, length, get_or, drop, set, sym, refl, ap, ◌∙◌, arith}
use Rattle.std.specs.List.{range_with_len}
use Rattle.std.proofs.lemmas.List.{append_assoc, drop_more, ext_get_or, get_or-drop, length-append, length-drop, set_at}
use Rattle.std.proofs.lemmas.List.FromFn.{get_or-map-range_with_len, length-map-range_with_len, map-range_with_len_more}
use Rattle.modes.specs.declared.mode.Mode.{Mode}
use Rattle.modes.specs.declared.way.Way.{Way}
use Rattle.modes.specs.Table.{row}
use Rattle.modes.specs.Results.{results}
use Rattle.modes.proofs.Receiving.{length_results}
use Rattle.runs.specs.Steps.{unit_at}
use Rattle.runs.proofs.UnitsOut.{result_is_unit}

-- one more is written
pub output_more : (y : ℕ → ℕ) (a n x : ℕ) (xs ys : List ℕ) → ys ≡ map y (range_with_len a n) ++ drop n xs → n < length ys → x ≡ y (a + n)
    → set ys n x ≡ map y (range_with_len a (n + 1)) ++ drop (n + 1) xs
output_more y a n x xs ys e h ex =
    let M = map y (range_with_len a n) in
    let len = length-map-range_with_len y a n in
    let l : n < length xs = omega (arith, ap length e, length-append M (drop n xs), length-drop n xs) in
    let rest = drop_more xs n 0 l in
    let put = set_at M (get_or xs n 0) (drop (n + 1) xs) x n len in
    let more = map-range_with_len_more y a n (a + n) refl in
    let assoc = append_assoc M (y (a + n) ∷ []) (drop (n + 1) xs) in
    cc (e, rest, put, ex, more, assoc)

-- the units that are handed out from place a on are the results from there on
pub units_are_results : (F G : ℕ → ℕ) (m : Mode) (way : Way) (ivs us : List ℕ) (a n b : ℕ) → length ivs ≡ (row m).values → a + n ≡ b
    → map (unit_at F G m way ivs us) (range_with_len a n) ≡ drop a (results F G m way ivs us b)
units_are_results F G m way ivs us a n b len e =
    let y = unit_at F G m way ivs us in
    let rs = results F G m way ivs us b in
    let ln = length-map-range_with_len y a n in
    let lr = length_results F G m way ivs us b in
    ext_get_or 0 (map y (range_with_len a n)) (drop a rs) (ln ∙ sym (length-drop a rs ∙ omega arith))
    (λ i l. get_or-map-range_with_len y a n i (a + i) 0 (omega arith) refl
    ∙ sym (get_or-drop a rs i 0 ∙ result_is_unit F G m way ivs us b (a + i) len (omega arith)))
