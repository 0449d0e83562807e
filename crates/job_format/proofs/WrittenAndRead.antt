-- Units that were written are read, and whole units are written as they were read.
use Rattle.std.proofs.Common.{◌≡◌, ℕ, zero, suc, ◌+◌, ◌*◌, ◌/◌, ◌%◌, ◌^◌, ◌<◌, ◌≤◌, true, ltb, ◌⊎◌, List, [], ◌∷◌, ◌++◌, length, get_or, drop, sym, refl, ap, ◌∙◌, inl, inr, add_assoc, mod-eq_of_lt, arith, length-drop, pow_mono}
use Rattle.std.proofs.lemmas.List.{get_or-drop, drop_more, nil_from_length}
use Rattle.std.proofs.lemmas.Bool.{lt-ltb}
use Rattle.cipher.specs.Bytes.{block_at}
use Rattle.modes.specs.Table.{row}
use Rattle.modes.specs.Values.{blocks_in, Units}
use Rattle.modes.proofs.Fits.{as_block}
use Rattle.job_format.specs.Fields.{Bytes}
use Rattle.job_format.specs.UnitBytes.{unit_size, units_in, eight_bytes, bytes_of, UnitsInBytes}
use Rattle.job_format.proofs.Sizes.{block_or_byte, length_bytes_of}

-- units that fit in a byte

bytes_as_units : (w : ℕ) → ltb w 64 ≡ true → (bs : List ℕ) → Bytes bs → bytes_of w bs ≡ bs
bytes_as_units w e [] small = refl
bytes_as_units w e (b ∷ bs) small =
    let here : b % 256 ≡ b = mod-eq_of_lt (small zero (omega arith)) in
    rw (e, here) (ap (λ (x : List ℕ). b ∷ x) (bytes_as_units w e bs (λ k l. small (suc k) (omega arith))))

-- units as wide as a block

block_behind : (p : ℕ) (bs : List ℕ) → block_at bs (8 + p) ≡ block_at (drop 8 bs) p
block_behind p bs = simp (get_or-drop, add_assoc)

-- a block and the blocks behind it
pub blocks_behind : (n : ℕ) (bs : List ℕ) → blocks_in (suc n) bs ≡ block_at bs 0 ∷ blocks_in n (drop 8 bs)
blocks_behind zero bs = refl
blocks_behind (suc n) bs =
    let e : 8 * suc n ≡ 8 + 8 * n = omega arith in
    let later : block_at bs (8 * suc n) ≡ block_at (drop 8 bs) (8 * n) = ap (block_at bs) e ∙ block_behind (8 * n) bs in
    ap (λ (x : List ℕ). x ++ block_at bs (8 * suc n) ∷ []) (blocks_behind n bs)
    ∙ ap (λ (x : ℕ). block_at bs 0 ∷ blocks_in n (drop 8 bs) ++ x ∷ []) later

eight_bytes_read : (u : ℕ) (bs : List ℕ) → u < 2 ^ 64 → block_at (eight_bytes u ++ bs) 0 ≡ u
eight_bytes_read u bs l = omega arith

blocks_read : (us : List ℕ) → Units 64 us → blocks_in (length us) (bytes_of 64 us) ≡ us
blocks_read [] fit = refl
blocks_read (u ∷ us) fit =
    let first : block_at (eight_bytes u ++ bytes_of 64 us) 0 ≡ u = eight_bytes_read u (bytes_of 64 us) (fit zero (omega arith)) in
    let rest : blocks_in (length us) (bytes_of 64 us) ≡ us = blocks_read us (λ k l. fit (suc k) (omega arith)) in
    blocks_behind (length us) (bytes_of 64 (u ∷ us)) ∙ cc

eight_and_rest : (bs : List ℕ) → 8 ≤ length bs
    → bs ≡ get_or bs 0 0 ∷ get_or bs 1 0 ∷ get_or bs 2 0 ∷ get_or bs 3 0 ∷ get_or bs 4 0 ∷ get_or bs 5 0 ∷ get_or bs 6 0 ∷ get_or bs 7 0 ∷ drop 8 bs
eight_and_rest bs l =
    let e0 = drop_more bs 0 0 (omega arith) in
    let e1 = drop_more bs 1 0 (omega arith) in
    let e2 = drop_more bs 2 0 (omega arith) in
    let e3 = drop_more bs 3 0 (omega arith) in
    let e4 = drop_more bs 4 0 (omega arith) in
    let e5 = drop_more bs 5 0 (omega arith) in
    let e6 = drop_more bs 6 0 (omega arith) in
    let e7 = drop_more bs 7 0 (omega arith) in
    cc

block_written : (bs : List ℕ) → Bytes bs → 8 ≤ length bs → eight_bytes (block_at bs 0) ++ drop 8 bs ≡ bs
block_written bs small l =
    let b0 : get_or bs 0 0 < 256 = small 0 (omega arith) in
    let b1 : get_or bs 1 0 < 256 = small 1 (omega arith) in
    let b2 : get_or bs 2 0 < 256 = small 2 (omega arith) in
    let b3 : get_or bs 3 0 < 256 = small 3 (omega arith) in
    let b4 : get_or bs 4 0 < 256 = small 4 (omega arith) in
    let b5 : get_or bs 5 0 < 256 = small 5 (omega arith) in
    let b6 : get_or bs 6 0 < 256 = small 6 (omega arith) in
    let b7 : get_or bs 7 0 < 256 = small 7 (omega arith) in
    let d0 : block_at bs 0 / 2 ^ 56 % 256 ≡ get_or bs 0 0 = omega arith in
    let d1 : block_at bs 0 / 2 ^ 48 % 256 ≡ get_or bs 1 0 = omega arith in
    let d2 : block_at bs 0 / 2 ^ 40 % 256 ≡ get_or bs 2 0 = omega arith in
    let d3 : block_at bs 0 / 2 ^ 32 % 256 ≡ get_or bs 3 0 = omega arith in
    let d4 : block_at bs 0 / 2 ^ 24 % 256 ≡ get_or bs 4 0 = omega arith in
    let d5 : block_at bs 0 / 2 ^ 16 % 256 ≡ get_or bs 5 0 = omega arith in
    let d6 : block_at bs 0 / 2 ^ 8 % 256 ≡ get_or bs 6 0 = omega arith in
    let d7 : block_at bs 0 % 256 ≡ get_or bs 7 0 = omega arith in
    cc (eight_and_rest bs l)

bytes_behind : (bs : List ℕ) → Bytes bs → Bytes (drop 8 bs)
bytes_behind bs small k l = rw get_or-drop (small (8 + k) (omega (arith, length-drop 8 bs)))

blocks_written : (n : ℕ) (bs : List ℕ) → Bytes bs → length bs ≡ 8 * n → bytes_of 64 (blocks_in n bs) ≡ bs
blocks_written zero bs small l = sym (nil_from_length bs l)
blocks_written (suc n) bs small l =
    let left : length (drop 8 bs) ≡ 8 * n = rw length-drop (omega arith) in
    let rest : bytes_of 64 (blocks_in n (drop 8 bs)) ≡ drop 8 bs = blocks_written n (drop 8 bs) (bytes_behind bs small) left in
    ap (bytes_of 64) (blocks_behind n bs) ∙ ap (λ (x : List ℕ). eight_bytes (block_at bs 0) ++ x) rest ∙ block_written bs small (omega arith)

-- both

narrow : (w : ℕ) → w ≤ 8 → ltb w 64 ≡ true
narrow w l = lt-ltb w 64 (omega arith)

written_are_read : (w : ℕ) (us : List ℕ) → (w ≡ 64) ⊎ (w ≤ 8) → Units w us → units_in w (bytes_of w us) ≡ us
written_are_read w us (inl e) fit =
    let n : length (bytes_of 64 us) / 8 ≡ length us = omega (arith, length_bytes_of 64 us) in
    rw (e, n) (blocks_read us (λ k l. as_block e (get_or us k 0) (fit k l)))
written_are_read w us (inr small) fit = rw (narrow w small) (bytes_as_units w (narrow w small) us (λ k l. omega (arith, fit k l, pow_mono small)))

read_are_written : (w : ℕ) (bytes : List ℕ) → (w ≡ 64) ⊎ (w ≤ 8) → Bytes bytes → length bytes % unit_size w ≡ 0 → bytes_of w (units_in w bytes) ≡ bytes
read_are_written w bytes (inl e) small whole =
    let n : length bytes ≡ 8 * (length bytes / 8) = omega (arith, rw e at whole) in
    rw e (blocks_written (length bytes / 8) bytes small n)
read_are_written w bytes (inr l) small whole = rw (narrow w l) (bytes_as_units w (narrow w l) bytes small)

pub units_in_bytes : UnitsInBytes
units_in_bytes = record {
  written_are_read = λ m us. written_are_read (row m).width us (block_or_byte m);
  read_are_written = λ m bytes. read_are_written (row m).width bytes (block_or_byte m);
}
