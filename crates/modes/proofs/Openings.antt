-- Every order answers some code and bytes, and an order is what it says.
use Rattle.std.proofs.Common.{◌≡◌, ℕ, zero, suc, ◌+◌, ◌*◌, ◌/◌, ◌%◌, ◌^◌, ◌<◌, true, eqb, List, [], ◌∷◌, map, length, get_or, Ok, refl, ap, ◌∙◌, arith, lit<}
use mathlib.Core.HLevel.{is_prop→PathP}
use mathlib.Core.Bool.{Bool-set}
use Rattle.std.proofs.lemmas.Bool.Decides.{nat_tests}
use Rattle.std.proofs.lemmas.Bool.{eqb-true, and_parts}
use Rattle.modes.specs.declared.mode.Mode.{Mode}
use Rattle.modes.specs.declared.values.InitialValues.{InitialValues}
use Rattle.modes.specs.declared.values.InitialValues.TheVariants.{Empty, One, Three}
use Rattle.modes.specs.Table.{row}
use Rattle.modes.specs.Values.{listed, blocks_in, are_blocks, suits, Units, Begins}
use Rattle.modes.proofs.Fits.{codes_name_modes, code_is_byte}
use Rattle.modes.specs.Orders.{opened, opened_by, OrdersAreAnswers, SameOpeningSameOrder}

-- what the type of an order says of its values

pub each_is_block : (vs : List ℕ) → are_blocks vs ≡ true → Units 64 vs
each_is_block [] e k l = absurd (omega arith)
each_is_block (v ∷ vs) e zero l = grind (arith, nat_tests)
each_is_block (v ∷ vs) e (suc k) l = each_is_block vs (and_parts _ _ e).1 k (omega arith)

pub suits_begins : (m : Mode) (values : InitialValues) → suits m values ≡ true → Begins m (listed values)
suits_begins m values e =
    let p = and_parts (eqb (length (listed values)) (row m).values) (are_blocks (listed values)) e in
    record { count = eqb-true _ _ p.0; blocks = each_is_block (listed values) p.1 }

-- the bytes of a block, the highest first

eight_digits : (v : ℕ) → v < 2 ^ 64
    → v / 2 ^ 56 % 2 ^ 8 * 2 ^ 56 + v / 2 ^ 48 % 2 ^ 8 * 2 ^ 48 + v / 2 ^ 40 % 2 ^ 8 * 2 ^ 40 + v / 2 ^ 32 % 2 ^ 8 * 2 ^ 32
    + v / 2 ^ 24 % 2 ^ 8 * 2 ^ 24 + v / 2 ^ 16 % 2 ^ 8 * 2 ^ 16 + v / 2 ^ 8 % 2 ^ 8 * 2 ^ 8 + v % 2 ^ 8 ≡ v
eight_digits v h = omega arith

low_bytes : (xs : List ℕ) (k : ℕ) → get_or (map (λ x. x % 2 ^ 8) xs) k 0 < 2 ^ 8
low_bytes [] k = lit< tt
low_bytes (x ∷ xs) zero = omega arith
low_bytes (x ∷ xs) (suc k) = low_bytes xs k

-- the bytes that open a mode with given values

abbrev digits : ℕ → List ℕ → List ℕ
digits v rest = v / 2 ^ 56 ∷ v / 2 ^ 48 ∷ v / 2 ^ 40 ∷ v / 2 ^ 32 ∷ v / 2 ^ 24 ∷ v / 2 ^ 16 ∷ v / 2 ^ 8 ∷ v ∷ rest

abbrev digits_of : InitialValues → List ℕ
digits_of Empty = []
digits_of (One a) = digits a []
digits_of (Three a b c) = digits a (digits b (digits c []))

abbrev bytes_of : InitialValues → List ℕ
bytes_of values = map (λ x. x % 2 ^ 8) (digits_of values)

length_bytes : (values : InitialValues) → length (bytes_of values) ≡ 8 * length (listed values)
length_bytes Empty = refl
length_bytes (One a) = refl
length_bytes (Three a b c) = refl

blocks_in_bytes : (values : InitialValues) → are_blocks (listed values) ≡ true → blocks_in (length (listed values)) (bytes_of values) ≡ listed values
blocks_in_bytes values e = inside values (each_is_block (listed values) e)
  where
    inside : (values : InitialValues) → Units 64 (listed values) → blocks_in (length (listed values)) (bytes_of values) ≡ listed values
    inside Empty h = refl
    inside (One a) h = let ea = eight_digits a (h 0 (lit< tt)) in cc
    inside (Three a b c) h =
        let ea = eight_digits a (h 0 (lit< tt)) in
        let eb = eight_digits b (h 1 (lit< tt)) in
        let ec = eight_digits c (h 2 (lit< tt)) in
        cc

opened_by_bytes : (m : Mode) (values : InitialValues) → suits m values ≡ true
    → opened m (bytes_of values) ≡ Ok (record { mode = m; values = listed values })
opened_by_bytes m values e =
    let p = and_parts (eqb (length (listed values)) (row m).values) (are_blocks (listed values)) e in
    let n : length (listed values) ≡ (row m).values = eqb-true _ _ p.0 in
    let len = length_bytes values in
    let same = blocks_in_bytes values p.1 in
    rw (← n) (grind (arith, nat_tests))

pub orders_are_answers : OrdersAreAnswers
orders_are_answers o = (
  (row o.mode).code,
  bytes_of o.values,
  (
    code_is_byte o.mode,
    (λ k _. low_bytes (digits_of o.values) k),
    ap (λ x. opened_by x (row o.mode).code (bytes_of o.values)) (codes_name_modes o.mode)
        ∙ opened_by_bytes o.mode o.values o.suited,
  ),
)

-- an order is what it says

listed_once : (u v : InitialValues) → listed u ≡ listed v → u ≡ v
listed_once Empty Empty e = refl
listed_once (One a) (One b) e = cc
listed_once (Three a b c) (Three x y z) e = cc
listed_once _ _ e = cc

pub same_opening_same_order : SameOpeningSameOrder
same_opening_same_order o p e =
    let m : o.mode ≡ p.mode = ap (λ x. x.mode) e in
    let v : o.values ≡ p.values = listed_once o.values p.values (ap (λ x. x.values) e) in
    λ i. record {
      mode = m i;
      values = v i;
      suited = is_prop→PathP (λ j. suits (m j) (v j) ≡ true) (λ j. Bool-set (suits (m j) (v j)) true) o.suited p.suited i;
    }
