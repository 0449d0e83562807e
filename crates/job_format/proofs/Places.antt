-- The units in some bytes, one by one.
use Rattle.std.proofs.Common.{◌≡◌, ℕ, zero, suc, ◌+◌, ◌*◌, ◌/◌, ◌<◌, ◌≤◌, false, cond, ltb, leb, List, [], ◌∷◌, length, get_or, take, drop, Some, None, sym, ap, ◌∙◌, ⊎_elim, length-drop, arith}
use Rattle.std.proofs.lemmas.List.{get_or-take, get_or_append_left, get_or_at}
use Rattle.std.proofs.lemmas.Bool.{cases_lt, cond-true, cond-false, lt-ltb, le-ltb, le-leb}
use Rattle.std.specs.Int.{from_be_bytes, w64}
use Rattle.cipher.specs.Bytes.{block_at}
use Rattle.modes.specs.Values.{blocks_in}
use Rattle.job_format.specs.UnitBytes.{unit_size, units_in, place}
use Rattle.job_format.proofs.Sizes.{length_blocks_in, units_in_counted}
use Rattle.job_format.proofs.WrittenAndRead.{blocks_behind}

-- the first eight bytes, as a number
word_read : (bs : List ℕ) → from_be_bytes w64 (take 8 bs) ≡ block_at bs 0
word_read bs =
    let at : (k : ℕ) → k < 8 → get_or (take 8 bs) k 0 ≡ get_or bs k 0 = λ k l. get_or-take 8 bs k 0 l in
    omega (arith, at 0 (omega arith), at 1 (omega arith), at 2 (omega arith), at 3 (omega arith), at 4 (omega arith), at 5 (omega arith), at 6 (omega arith), at 7 (omega arith))

-- a unit as wide as a block, and those behind it
pub word_first : (w : ℕ) (bs : List ℕ) → 64 ≤ w → 8 ≤ length bs
    → units_in w bs ≡ from_be_bytes w64 (take 8 bs) ∷ units_in w (drop 8 bs)
word_first w bs wide l =
    let n : length bs / 8 ≡ suc (length (drop 8 bs) / 8) = rw length-drop (omega arith) in
    let left : ℕ = length (drop 8 bs) / 8 in
    rw (le-ltb w 64 wide, n) (blocks_behind left bs ∙ ap (λ u. u ∷ blocks_in left (drop 8 bs)) (sym (word_read bs)))

-- the units in some bytes

pub none_behind : (w : ℕ) (bytes : List ℕ) (i : ℕ) → length bytes / unit_size w ≤ i → None ≡ place (units_in w bytes) i
none_behind w bytes i l = sym (cond-false _ _ _ (le-ltb i (length (units_in w bytes)) (omega (arith, units_in_counted w bytes))))

block_among : (n : ℕ) (bs : List ℕ) (i : ℕ) → i < n → get_or (blocks_in n bs) i 0 ≡ block_at bs (8 * i)
block_among zero bs i l = absurd (omega arith)
block_among (suc n) bs i l =
    ⊎_elim
    (λ below. get_or_append_left (blocks_in n bs) _ 0 i (omega (arith, length_blocks_in n bs)) ∙ block_among n bs i below)
    (λ last. let e : n ≡ i = omega arith in get_or_at (blocks_in n bs) _ [] 0 i (length_blocks_in n bs ∙ e) ∙ ap (λ (x : ℕ). block_at bs (8 * x)) e)
    (cases_lt i n)

pub block_placed : (w : ℕ) (bytes : List ℕ) (i : ℕ) → 64 ≤ w → i < length bytes / unit_size w
    → cond (leb (8 * i + 8) (length bytes)) (Some (block_at bytes (8 * i))) None ≡ place (units_in w bytes) i
block_placed w bytes i wide l =
    let e : ltb w 64 ≡ false = le-ltb w 64 wide in
    let below : i < length bytes / 8 = rw e at l in
    let n = length_blocks_in (length bytes / 8) bytes in
    cond-true _ _ _ (le-leb (8 * i + 8) (length bytes) (omega arith))
    ∙ sym (rw e (cond-true _ _ _ (lt-ltb i _ (omega arith)) ∙ ap (λ (x : ℕ). Some x) (block_among (length bytes / 8) bytes i below)))
