-- Checking an opening: a code and the bytes of the initial values.
use Rattle.std.specs.Prelude.{◌≡◌, ℕ, ◌*◌, ◌^◌, ◌<◌, cond, List, length, Some, None, Ok, Err, Option, Result, ◌==◌, slice_index}
use Rattle.refusals.specs.declared.Refusal.{Refusal}
use Rattle.refusals.specs.declared.Refusal.TheVariants.{UnknownCode, InitialValueLength}
use Rattle.modes.specs.declared.mode.Mode.{Mode}
use Rattle.modes.specs.declared.order.Order.{Order}
use Rattle.modes.specs.Table.{row, with_code}
use Rattle.modes.specs.Values.{listed, blocks_in}

-- what an order says: its mode and its initial values, in their order
pub record Opening : Type 0 where
  pub mode : Mode
  pub values : List ℕ

abbrev pub opening : Order → Opening
opening o = record { mode = o.mode; values = listed o.values }

abbrev pub answered : Result Order Refusal → Result Opening Refusal
answered (Ok o) = Ok (opening o)
answered (Err e) = Err e

-- the opening of a mode with some bytes: their length must be eight for each initial value
abbrev pub opened : Mode → List ℕ → Result Opening Refusal
opened m bytes =
    cond (length bytes == 8 * (row m).values)
    (Ok (record { mode = m; values = blocks_in (row m).values bytes }))
    (Err (InitialValueLength (length bytes)))

abbrev pub opened_by : Option Mode → ℕ → List ℕ → Result Opening Refusal
opened_by None code bytes = Err (UnknownCode code)
opened_by (Some m) code bytes = opened m bytes

-- the answer to a code and bytes
abbrev pub checked : ℕ → List ℕ → Result Opening Refusal
checked code bytes = opened_by (with_code code) code bytes

-- no order exists that checking would not pass: each answers some code and some bytes
abbrev pub OrdersAreAnswers : Type 0
OrdersAreAnswers =
    (o : Order) → (code : ℕ) × (bytes : List ℕ)
    × ((code < 2 ^ 8) × ((k : ℕ) → k < length bytes → slice_index bytes k < 2 ^ 8) × (checked code bytes ≡ Ok (opening o)))

-- orders that say the same are the same value
abbrev pub SameOpeningSameOrder : Type 0
SameOpeningSameOrder = (o p : Order) → opening o ≡ opening p → o ≡ p
