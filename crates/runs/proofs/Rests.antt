-- Calls that are given what is left of an output list, behind the units that stand first in it.
use Rattle.std.proofs.Common.{◌≡◌, ℕ, ◌+◌, ◌-◌, ◌≤◌, List, ◌++◌, length, take, drop, set, Some, None, Option, sym, ap, ◌∙◌, subst, arith}
use Rattle.std.proofs.lemmas.List.{append_assoc, append-nil, drop_all, take_rest, length-append, length-drop, length-take-le, take-append-drop, take-set-le, drop-set-add}
use Rattle.std.proofs.Math.Seq.{drop-append-add, take-append-add}
use Rattle.engines.specs.Machines.{Machine}
use Rattle.runs.specs.declared.frame.Frame.{Frame}
use Rattle.runs.specs.Steps.{one_if}
use Rattle.runs.specs.Views.{view, Kept}
use Rattle.runs.specs.Standing.{SameEngine, Cycled}
use Rattle.runs.specs.Handing.{written, Behind, Passes}
use Rattle.runs.proofs.Passes.{passes}

-- what is written first there is written behind those units
written_rest : (ys : List ℕ) (given : ℕ) (r : Option ℕ) → take given ys ++ written (drop given ys) 0 r ≡ written ys given r
written_rest ys given None = take-append-drop given ys
written_rest ys given (Some x) =
    let none : given + 0 ≡ given = omega arith in
    let rest = drop-set-add given ys 0 x in
    let front = take-set-le given ys (given + 0) x (omega arith) in
    let whole = take-append-drop given (set ys (given + 0) x) in
    cc (none, rest, front, whole)

pub passes_behind : (mach mach' : Machine) (f f' : Frame) (unit r : Option ℕ) (n : ℕ) (xs xs' : List ℕ) → SameEngine mach mach' → Kept f f'
    → one_if r ≤ length xs → n ≡ one_if r → xs' ≡ written xs 0 r → Cycled mach mach' f.mode f.way (view f) (view f') unit r
    → Behind (Passes mach mach' f f' unit) n xs xs'
passes_behind mach mach' f f' unit r n xs xs' same kept room count after cyc = λ ys given l rest.
    let size : length ys - given ≡ length xs = sym (length-drop given ys) ∙ ap length rest in
    passes mach mach' f f' unit r given (given + n) ys (take given ys ++ xs') same kept (omega arith) (ap (λ k. given + k) count)
    (ap (λ zs. take given ys ++ zs) (after ∙ ap (λ zs. written zs 0 r) (sym rest)) ∙ written_rest ys given r) cyc

-- a list whose rest behind n is written anew, as the borrow of that rest leaves it
abbrev pub refilled : List ℕ → ℕ → List ℕ → List ℕ
refilled xs n rest = take n xs ++ (rest ++ drop (length xs - n) (drop n xs))

pub refilled_is : (xs rest : List ℕ) (n : ℕ) → refilled xs n rest ≡ take n xs ++ rest
refilled_is xs rest n =
    let size = length-drop n xs in
    ap (λ zs. take n xs ++ (rest ++ zs)) (drop_all (length xs - n) (drop n xs) (omega arith)) ∙ ap (λ zs. take n xs ++ zs) (append-nil rest)

pub size_refilled : (xs rest : List ℕ) (n : ℕ) → n ≤ length xs → length rest ≡ length (take (length xs - n) (drop n xs)) → length (refilled xs n rest) ≡ length xs
size_refilled xs rest n l e = ap length (refilled_is xs rest n) ∙ omega (arith, e, ap length (take_rest xs n), length-drop n xs, length-append (take n xs) rest, length-take-le n xs l)

-- a call on the rest of a list, seen on the whole of it
pub on_rest : (R : (given given' : ℕ) (ys ys' : List ℕ) → Type 0) (n m : ℕ) (xs rest : List ℕ) → n ≤ length xs
    → Behind R m (take (length xs - n) (drop n xs)) rest → R n (n + m) xs (refilled xs n rest)
on_rest R n m xs rest l p = subst (R n (n + m) xs) (sym (refilled_is xs rest n)) (p xs n l (sym (take_rest xs n)))

pub behind_none : (R : (given given' : ℕ) (ys ys' : List ℕ) → Type 0) (xs : List ℕ) → ((given : ℕ) (ys : List ℕ) → R given given ys ys) → Behind R 0 xs xs
behind_none R xs same = λ ys given few left.
    let none : given ≡ given + 0 = omega arith in
    subst (λ n. R given n ys (take given ys ++ xs)) none
    (subst (R given given ys) (sym (ap (λ zs. take given ys ++ zs) (sym left) ∙ take-append-drop given ys)) (same given ys))

-- one call after another
pub behind_then : (R Q S : (given given' : ℕ) (ys ys' : List ℕ) → Type 0) (n m : ℕ) (xs xs' rest : List ℕ)
    → ((a b c : ℕ) (ys zs ws : List ℕ) → R a b ys zs → Q b c zs ws → S a c ys ws)
    → n ≤ length xs' → Behind R n xs xs' → Behind Q m (take (length xs' - n) (drop n xs')) rest → Behind S (n + m) xs (refilled xs' n rest)
behind_then R Q S n m xs xs' rest join l p q = λ ys given few left.
    let front = length-take-le given ys few in
    let zs = take given ys ++ xs' in
    let size = length-append (take given ys) xs' in
    let here : drop (given + n) zs ≡ take (length xs' - n) (drop n xs') =
    ap (λ k. drop (k + n) zs) (sym front) ∙ drop-append-add (take given ys) xs' n ∙ sym (take_rest xs' n) in
    let there : take (given + n) zs ≡ take given ys ++ take n xs' = ap (λ k. take (k + n) zs) (sym front) ∙ take-append-add (take given ys) xs' n in
    let whole : take (given + n) zs ++ rest ≡ take given ys ++ refilled xs' n rest =
    ap (λ ws. ws ++ rest) there ∙ append_assoc (take given ys) (take n xs') rest ∙ ap (λ ws. take given ys ++ ws) (sym (refilled_is xs' rest n)) in
    let count : given + n + m ≡ given + (n + m) = omega arith in
    subst (λ k. S given k ys (take given ys ++ refilled xs' n rest)) count
    (subst (S given (given + n + m) ys) whole
    (join given (given + n) (given + n + m) ys zs (take (given + n) zs ++ rest) (p ys given few left) (q zs (given + n) (omega arith) here)))
