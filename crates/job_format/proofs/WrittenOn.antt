-- Bytes and units written behind others.
use Rattle.std.proofs.Common.{◌≡◌, ℕ, ◌+◌, ◌-◌, ◌*◌, ◌/◌, ◌<◌, ◌≤◌, true, false, leb, List, [], ◌∷◌, ◌++◌, length, get_or, take, drop, Some, None, sym, ap, ◌∙◌, ap₂, append_assoc, append-nil, add-zero, add_assoc, div-lt_iff_lt-mul, mul-le-mul_left, zero-add, arith, length-append, length-drop}
use native.Mathlib.Nat.{mul-div-le}
use borrow.Rule.Slice.PartMut.{put_mid}
use Rattle.std.specs.List.{flat_map}
use Rattle.std.proofs.lemmas.List.{take-append-drop, length-take-le, take_all, take_at, drop_at, drop-drop, take_more}
use Rattle.std.proofs.lemmas.Bool.{cond-true, cond-false, le-leb, lt-leb}
use Rattle.job_format.specs.UnitBytes.{unit_size, last_bytes, bytes_of, overwritten, units_written, written_end}
use Rattle.job_format.proofs.Sizes.{length_last_bytes, length_joined_bytes, length_bytes_of, joined_append, bytes_of_append}

-- more bytes, right behind those that were written
overwritten_more : (xs : List ℕ) (p : ℕ) (bs cs : List ℕ) → p ≤ length xs
    → overwritten (overwritten xs p bs) (p + length bs) cs ≡ overwritten xs p (bs ++ cs)
overwritten_more xs p bs cs l =
    let front : length (take p xs ++ bs) ≡ p + length bs = rw length-append (ap (λ (n : ℕ). n + length bs) (length-take-le p xs l)) in
    let kept : take (p + length bs) (overwritten xs p bs) ≡ take p xs ++ bs = take_at (take p xs ++ bs) _ _ front in
    let behind : drop (p + length bs) (overwritten xs p bs) ≡ drop (p + length bs) xs = drop_at (take p xs ++ bs) _ _ front in
    let rest = sym (drop-drop (length cs) (p + length bs) _) ∙ ap (drop (length cs)) behind ∙ drop-drop (length cs) (p + length bs) xs in
    rw (kept, rest) (simp (append_assoc, length-append, add_assoc))

-- what a write to a part of a slice leaves
part_overwritten : (e k : ℕ) (xs bs : List ℕ) → k ≡ length bs → put_mid e k xs bs ≡ overwritten xs e bs
part_overwritten e k xs bs l = rw (l, drop-drop (length bs) e xs) (sym (append_assoc (take e xs) bs _))

-- all units have room, or not

room_for_all : (n k p room : ℕ) → p ≤ room → k ≤ (room - p) / n → p + n * k ≤ room
room_for_all n k p room l h = omega (arith, mul-le-mul_left n h, mul-div-le (room - p) n)

pub room_for_fewer : (n k p room : ℕ) → 0 < n → (room - p) / n < k → room < p + n * k
room_for_fewer n k p room l h = omega (arith, (div-lt_iff_lt-mul l).0 h)

pub without_room : (w : ℕ) (us xs : List ℕ) (p : ℕ) → length xs < p + unit_size w * length us
    → (None ≡ written_end w us xs p) × (xs ≡ units_written w us xs p)
without_room w us xs p l =
    let short : leb (p + length (bytes_of w us)) (length xs) ≡ false = lt-leb (p + length (bytes_of w us)) (length xs) (omega (arith, length_bytes_of w us)) in
    (sym (cond-false _ _ _ short), sym (cond-false _ _ _ short))

with_room : (w : ℕ) (us xs : List ℕ) (p : ℕ) → p + length (bytes_of w us) ≤ length xs
    → (Some (p + length (bytes_of w us)) ≡ written_end w us xs p) × (overwritten xs p (bytes_of w us) ≡ units_written w us xs p)
with_room w us xs p l =
    let room : leb (p + length (bytes_of w us)) (length xs) ≡ true = le-leb (p + length (bytes_of w us)) (length xs) l in
    (sym (cond-true _ _ _ room), sym (cond-true _ _ _ room))

-- none yet
pub none_written : (xs : List ℕ) (p : ℕ) → xs ≡ overwritten xs p []
none_written xs p = simp (append-nil, add-zero, take-append-drop)

-- one unit more
pub unit_written : (n : ℕ) (us xs ys : List ℕ) (i p e : ℕ) → n ≤ 8 → i < length us → p ≤ length xs → e ≡ p + n * i
    → ys ≡ overwritten xs p (flat_map (last_bytes n) (take i us))
    → put_mid e (e + n - e) ys (last_bytes n (get_or us i 0)) ≡ overwritten xs p (flat_map (last_bytes n) (take (i + 1) us))
unit_written n us xs ys i p e most below l here is =
    let f : ℕ → List ℕ = last_bytes n in
    let u : ℕ = get_or us i 0 in
    let before : List ℕ = flat_map f (take i us) in
    let size : length (f u) ≡ n = length_last_bytes n u most in
    let far : length before ≡ n * i = length_joined_bytes n (take i us) most ∙ ap (λ (k : ℕ). n * k) (length-take-le i us (omega arith)) in
    let at_end : e ≡ p + length before = omega arith in
    let one_more : flat_map f (take (i + 1) us) ≡ before ++ f u = rw (take_more us i 0 below, joined_append f (take i us) (u ∷ []), append-nil (f u)) in
    part_overwritten e (e + n - e) ys (f u) (omega arith) ∙ ap₂ (λ (xs : List ℕ) (k : ℕ). overwritten xs k (f u)) is at_end
    ∙ overwritten_more xs p before (f u) l ∙ ap (overwritten xs p) (sym one_more)

-- all of them
pub all_written : (w n : ℕ) (us xs ys : List ℕ) (i p e : ℕ) → n ≡ unit_size w → i ≡ length us → p ≤ length xs → length us ≤ (length xs - p) / n → e ≡ p + n * i
    → ys ≡ overwritten xs p (flat_map (last_bytes n) (take i us)) → (Some e ≡ written_end w us xs p) × (ys ≡ units_written w us xs p)
all_written w n us xs ys i p e size done l room here is =
    let bytes : flat_map (last_bytes n) (take i us) ≡ bytes_of w us = ap (flat_map (last_bytes n)) (take_all i us (omega arith)) ∙ ap (λ (k : ℕ). flat_map (last_bytes k) us) size in
    let long : n * i ≡ length (bytes_of w us) = ap₂ (λ (k j : ℕ). k * j) size done ∙ sym (length_bytes_of w us) in
    let end : e ≡ p + length (bytes_of w us) = omega arith in
    let written = with_room w us xs p (omega (arith, room_for_all n i p (length xs) l (omega arith))) in
    (ap (λ (k : ℕ). Some k) end ∙ written.0, is ∙ ap (overwritten xs p) bytes ∙ written.1)

-- units behind units that were written from the start on

module _ (w : ℕ) (hs ks xs ys : List ℕ) (e : ys ≡ bytes_of w hs ++ drop (length (bytes_of w hs)) xs) (l : length (bytes_of w (hs ++ ks)) ≤ length xs) where
  end_on : length (bytes_of w hs) + length (bytes_of w ks) ≡ length (bytes_of w (hs ++ ks))
  end_on = sym (ap length (bytes_of_append w hs ks) ∙ length-append (bytes_of w hs) (bytes_of w ks))

  room_on : length (bytes_of w hs) + length (bytes_of w ks) ≤ length ys
  room_on = omega (arith, end_on, simp (length-append, length-drop) at (ap length e))

  pub written_on : units_written w ks ys (length (bytes_of w hs)) ≡ bytes_of w (hs ++ ks) ++ drop (length (bytes_of w (hs ++ ks))) xs
  written_on =
      sym (with_room w ks ys (length (bytes_of w hs)) room_on).1 ∙ ap (λ (x : List ℕ). overwritten x (length (bytes_of w hs)) (bytes_of w ks)) e
      ∙ simp zero-add at (overwritten_more xs 0 (bytes_of w hs) (bytes_of w ks) (omega arith))
      ∙ ap (λ (x : List ℕ). x ++ drop (length x) xs) (sym (bytes_of_append w hs ks))

  pub written_end_on : written_end w ks ys (length (bytes_of w hs)) ≡ Some (length (bytes_of w (hs ++ ks)))
  written_end_on = sym (with_room w ks ys (length (bytes_of w hs)) room_on).0 ∙ ap (λ (k : ℕ). Some k) end_on
