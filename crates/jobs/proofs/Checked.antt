-- What it means that data is checked.
use Rattle.std.proofs.Common.{◌≡◌, ℕ, ◌%◌, ◌<◌, ◌≤◌, Bool, true, false, is_ok, cond, eqb, ltb, List, length, Some, None, Ok, Err, Option, Result, sym, refl, ap, ◌∙◌, arith}
use Rattle.std.proofs.lemmas.Bool.{cond-true, cond-false, lt-ltb, le-ltb, ltb-false, eq-eqb, eqb-true}
use Rattle.refusals.specs.declared.Refusal.{Refusal}
use Rattle.refusals.specs.declared.Refusal.TheVariants.{DataLength, PartialUnit, UnitWidth, OutputLength}
use Rattle.modes.specs.declared.mode.Mode.{Mode}
use Rattle.modes.specs.Table.{row}
use Rattle.modes.specs.Widths.{first_wide}
use Rattle.job_format.specs.UnitBytes.{unit_size, units_in}
use Rattle.jobs.specs.Asking.{data_limit, data_checked}

-- data that passes
pub record Passing (m : Mode) (bytes : List ℕ) (room : ℕ) : Type 0 where
  pub few : length bytes ≤ data_limit
  pub whole : length bytes % unit_size (row m).width ≡ 0
  pub narrow : first_wide (row m).width 0 (units_in (row m).width bytes) ≡ None
  pub roomy : length bytes ≤ room

module _ (m : Mode) (bytes : List ℕ) (room : ℕ) where
  abbrev wide : Option ℕ
  wide = first_wide (row m).width 0 (units_in (row m).width bytes)

  abbrev scanned : Option ℕ → Result (Unit {0}) Refusal
  scanned found = elim found [ Some i ↦ Err (UnitWidth i) | None ↦ cond (ltb room (length bytes)) (Err (OutputLength (length bytes))) (Ok tt) ]

  module _ (few : length bytes ≤ data_limit) (whole : length bytes % unit_size (row m).width ≡ 0) where
    on_to_scan : data_checked m bytes room ≡ scanned wide
    on_to_scan = cond-false _ _ _ (le-ltb data_limit (length bytes) few) ∙ cond-true _ _ _ (eq-eqb _ 0 whole)

    pub refused_wide : (i : ℕ) → Some i ≡ wide → Err (UnitWidth i) ≡ data_checked m bytes room
    refused_wide i e = sym (on_to_scan ∙ ap scanned (sym e))

    pub refused_room : None ≡ wide → room < length bytes → Err (OutputLength (length bytes)) ≡ data_checked m bytes room
    refused_room e l = sym (on_to_scan ∙ ap scanned (sym e) ∙ cond-true _ _ _ (lt-ltb room (length bytes) l))

    pub passed : None ≡ wide → length bytes ≤ room → data_checked m bytes room ≡ Ok (tt {0})
    passed e l = on_to_scan ∙ ap scanned (sym e) ∙ cond-false _ _ _ (le-ltb room (length bytes) l)

  -- no other data passes
  pub passing : data_checked m bytes room ≡ Ok (tt {0}) → Passing m bytes room
  passing e = all (ltb data_limit (length bytes)) (eqb (length bytes % unit_size (row m).width) 0) wide (ltb room (length bytes)) refl refl refl refl e
    where
      all : (long whole : Bool) (found : Option ℕ) (short : Bool) → ltb data_limit (length bytes) ≡ long
          → eqb (length bytes % unit_size (row m).width) 0 ≡ whole → wide ≡ found → ltb room (length bytes) ≡ short
          → cond long (Err (DataLength (length bytes)))
          (cond whole (elim found [ Some i ↦ Err (UnitWidth i) | None ↦ cond short (Err (OutputLength (length bytes))) (Ok tt) ]) (Err (PartialUnit (length bytes))))
          ≡ Ok (tt {0})
          → Passing m bytes room
      all true whole found short a b c d e = cc
      all false false found short a b c d e = cc
      all false true (Some i) short a b c d e = cc
      all false true None true a b c d e = cc
      all false true None false a b c d e =
          record { few = ltb-false _ _ a; whole = eqb-true _ _ b; narrow = c; roomy = ltb-false _ _ d }

module _ (m : Mode) (bytes : List ℕ) (room : ℕ) where
  -- and such data passes
  pub accepted : Passing m bytes room → data_checked m bytes room ≡ Ok (tt {0})
  accepted pass = passed m bytes room pass.few pass.whole (sym pass.narrow) pass.roomy

-- ---- what a passage knows of its data

module _ (m : Mode) (bytes : List ℕ) (room : ℕ) where
  -- with as much room as it has bytes
  pub checked_alone : Ok (tt {0}) ≡ data_checked m bytes room → is_ok (data_checked m bytes (length bytes)) ≡ true
  checked_alone e =
      let pass = passing m bytes room (sym e) in
      ap is_ok (accepted m bytes (length bytes) (record { few = pass.few; whole = pass.whole; narrow = pass.narrow; roomy = omega arith }))

  pub checked_within : Ok (tt {0}) ≡ data_checked m bytes room → length bytes ≤ room
  checked_within e = (passing m bytes room (sym e)).roomy

  -- and so with any room for them
  pub with_room : is_ok (data_checked m bytes (length bytes)) ≡ true → length bytes ≤ room → data_checked m bytes room ≡ Ok (tt {0})
  with_room alone l =
      let pass = passing m bytes (length bytes) (ok_is _ alone) in
      accepted m bytes room (record { few = pass.few; whole = pass.whole; narrow = pass.narrow; roomy = l })
    where
      ok_is : (r : Result (Unit {0}) Refusal) → is_ok r ≡ true → r ≡ Ok tt
      ok_is (Ok done) e = refl
      ok_is (Err x) e = cc
