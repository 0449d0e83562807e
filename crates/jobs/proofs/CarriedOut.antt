-- All units of a job through a run: unit by unit, and then the drain.
use Rattle.std.proofs.Common.{◌≡◌, ℕ, ◌+◌, ◌*◌, ◌^◌, ◌<◌, ◌≤◌, List, [], ◌∷◌, ◌++◌, length, get_or, take, drop, Ok, Err, Result, sym, refl, ap, ◌∙◌, subst, mul-le-mul_left, arith}
use Rattle.std.proofs.lemmas.List.{length-append, length-take-le, get_or_at, take_more, take_all}
use Rattle.refusals.specs.declared.Refusal.{Refusal}
use Rattle.engines.specs.Machines.{Machine}
use Rattle.modes.specs.declared.mode.Mode.{Mode}
use Rattle.modes.specs.declared.way.Way.{Way}
use Rattle.modes.specs.declared.order.Order.{Order}
use Rattle.modes.specs.Table.{row, distance_of}
use Rattle.modes.specs.Values.{listed}
use Rattle.modes.specs.Orders.{opening}
use Rattle.modes.specs.Results.{results}
use Rattle.calls.specs.Calls.{new, started}
use Rattle.calls.proofs.Accepted.{none_wide}
use Rattle.runs.specs.declared.frame.Frame.{Frame}
use Rattle.runs.specs.Standing.{SameEngine}
use Rattle.runs.specs.Stands.{Stands}
use Rattle.runs.specs.Whole.{cycles_for}
use Rattle.job_format.specs.UnitBytes.{unit_size, units_in, bytes_of}
use Rattle.job_format.proofs.Sizes.{length_units_in, units_in_few}
use Rattle.jobs.specs.declared.report.Report.{Report}
use Rattle.jobs.specs.Asking.{data_checked}
use Rattle.jobs.specs.Meaning.{done_on}
use Rattle.jobs.specs.Carrying.{UnderWay, AllOut, FedOn, FedSome, DrainedOff, CarriedOut}
use Rattle.jobs.proofs.Checked.{passing}
use Rattle.jobs.proofs.UnderWay.{err_is_not_ok}

-- ---- one unit more

module _ (mach mach1 mach2 : Machine) (f f1 f2 : Frame) (bytes xs ys ys' before rest : List ℕ) (u offset offset' : ℕ) where
  -- the unit fits, and its bytes have room, since the data was checked
  goes_on : (mode : Mode) → units_in (row mode).width bytes ≡ before ++ u ∷ rest → FedSome mach mach1 f f1 mode bytes xs ys (length before) offset
      → (r : Result (Unit {0}) Refusal) → FedOn mach1 mach2 f1 f2 mode u offset offset' ys ys' r
      → (order : Order) (way : Way) → order.mode ≡ mode → Stands mach f (started order way new) → data_checked mode bytes (length xs) ≡ Ok (tt {0})
      → (r ≡ Ok tt) × UnderWay mach2 f2 order way (take (length (before ++ u ∷ [])) (units_in (row mode).width bytes)) xs ys' offset'
  goes_on mode here so_far r feeds order way same stands checked =
      let us = units_in (row mode).width bytes in
      let index : ℕ = length before in
      let size = unit_size (row mode).width in
      let within : index < length us = omega (arith, simp length-append at (ap length here)) in
      let there : u ≡ get_or us index 0 = rw here (sym (get_or_at before u rest 0 index refl)) in
      let pass = passing mode bytes (length xs) checked in
      let front : length (take index us) ≡ index = length-take-le index us (omega arith) in
      let narrow : u < 2 ^ (row mode).width = subst (λ v. v < 2 ^ (row mode).width) (sym there) (none_wide _ 0 us pass.narrow index within) in
      let next : length (take index us) + 1 ≤ length us = omega (arith, front) in
      let most : size * (length (take index us) + 1) ≤ length xs =
      omega (arith, mul-le-mul_left size next, length_units_in (row mode).width bytes pass.whole, pass.roomy) in
      let a = feeds order way (take index us) xs same (so_far order way same stands checked) narrow
      (omega (arith, front, units_in_few (row mode).width bytes, pass.few))
      (subst (λ m. unit_size (row m).width * (length (take index us) + 1) ≤ length xs) (sym same) most) in
      let longer : length (before ++ u ∷ []) ≡ index + 1 = length-append before (u ∷ []) in
      let more : take index us ++ u ∷ [] ≡ take (length (before ++ u ∷ [])) us =
      ap (λ v. take index us ++ v ∷ []) there ∙ sym (take_more us index 0 within) ∙ ap (λ (n : ℕ). take n us) (sym longer) in
      (a.0, subst (λ l. UnderWay mach2 f2 order way l xs ys' offset') more a.1)

  module _ (mode mode' : Mode) (writes : mode' ≡ mode) (here : units_in (row mode).width bytes ≡ before ++ u ∷ rest)
      (so_far : FedSome mach mach1 f f1 mode bytes xs ys (length before) offset) where
    pub fed_more : FedOn mach1 mach2 f1 f2 mode' u offset offset' ys ys' (Ok tt) → FedSome mach mach2 f f2 mode bytes xs ys' (length (before ++ u ∷ [])) offset'
    fed_more feeds order way same stands checked =
        (goes_on mode here so_far (Ok tt) (subst (λ m. FedOn mach1 mach2 f1 f2 m u offset offset' ys ys' (Ok tt)) writes feeds) order way same stands checked).1

    pub feed_never_refused : (e e' : Refusal) → FedOn mach1 mach2 f1 f2 mode' u offset offset' ys ys' (Err e) → CarriedOut mach f mode bytes xs ys' (Err e')
    feed_never_refused e e' feeds order way same stands checked =
        absurd (err_is_not_ok e _ (goes_on mode here so_far (Err e) (subst (λ m. FedOn mach1 mach2 f1 f2 m u offset offset' ys ys' (Err e)) writes feeds) order way same stands checked).0)

-- ---- all units, and the drain

module _ (mach mach1 mach2 : Machine) (f f1 f2 : Frame) (bytes xs ys ys' all : List ℕ) (offset offset' : ℕ) where
  ends : (mode : Mode) → units_in (row mode).width bytes ≡ all → FedSome mach mach1 f f1 mode bytes xs ys (length all) offset
      → (r : Result (Unit {0}) Refusal) → DrainedOff mach1 mach2 f1 f2 mode offset offset' ys ys' r
      → (order : Order) (way : Way) → order.mode ≡ mode → Stands mach f (started order way new) → data_checked mode bytes (length xs) ≡ Ok (tt {0})
      → (r ≡ Ok tt) × AllOut mach2 f2 order way (units_in (row mode).width bytes) xs ys' offset'
  ends mode whole feeds r drains order way same stands checked =
      let us = units_in (row mode).width bytes in
      let pass = passing mode bytes (length xs) checked in
      let under_way = subst (λ l. UnderWay mach1 f1 order way l xs ys offset) (take_all (length all) us (omega (arith, ap length whole))) (feeds order way same stands checked) in
      let most : unit_size (row mode).width * length us ≤ length xs = omega (arith, length_units_in (row mode).width bytes pass.whole, pass.roomy) in
      drains order way us xs same under_way (subst (λ m. unit_size (row m).width * length us ≤ length xs) (sym same) most)

  module _ (mode mode' : Mode) (writes : mode' ≡ mode) (whole : units_in (row mode).width bytes ≡ all)
      (feeds : FedSome mach mach1 f f1 mode bytes xs ys (length all) offset) where
    pub drain_never_refused : (e e' : Refusal) → DrainedOff mach1 mach2 f1 f2 mode' offset offset' ys ys' (Err e) → CarriedOut mach f mode bytes xs ys' (Err e')
    drain_never_refused e e' drains order way same stands checked =
        absurd (err_is_not_ok e _ (ends mode whole feeds (Err e) (subst (λ m. DrainedOff mach1 mach2 f1 f2 m offset offset' ys ys' (Err e)) writes drains) order way same stands checked).0)

    pub carried_out : (units cycles told : ℕ) → SameEngine mach mach2 → DrainedOff mach1 mach2 f1 f2 mode' offset offset' ys ys' (Ok tt) → units ≡ f2.taken
        → cycles ≡ f2.cycles → told ≡ offset' → CarriedOut mach f mode bytes xs ys' (Ok (record { units = units; cycles = cycles; bytes = told }))
    carried_out units cycles told engine drains taken clocked ended order way same stands checked =
        let a = ends mode whole feeds (Ok tt) (subst (λ m. DrainedOff mach1 mach2 f1 f2 m offset offset' ys ys' (Ok tt)) writes drains) order way same stands checked in
        let width : (row order.mode).width ≡ (row mode).width = ap (λ m. (row m).width) same in
        let us = units_in (row order.mode).width bytes in
        let out = subst (λ w. AllOut mach2 f2 order way (units_in w bytes) xs ys' offset') (sym width) a.1 in
        let is : out.all ≡ (done_on mach (opening order) way bytes).bytes =
        out.all_is
        ∙ (λ i. bytes_of (row order.mode).width (results (engine.0 i) (engine.1 i) order.mode way (listed order.values) us (length us))) in
        let count : units ≡ length us = taken ∙ out.units in
        let cost : cycles ≡ cycles_for mach.depth (distance_of order.mode way) us =
        clocked ∙ out.cycles ∙ ap (λ D. cycles_for D (distance_of order.mode way) us) engine.2 in
        let end : told ≡ length (done_on mach (opening order) way bytes).bytes = ended ∙ out.offset_is ∙ ap length is in (
          (λ i. Ok (record { units = count i; cycles = cost i; bytes = end i })),
          out.output ∙ ap (λ l. l ++ drop (length l) xs) is,
        )

-- the same of an output list that a writer held
pub in_list : (mach : Machine) (f : Frame) (mode : Mode) (bytes xs xs' ys ys' : List ℕ) (r : Result Report Refusal) → xs' ≡ xs → ys ≡ ys'
    → CarriedOut mach f mode bytes xs' ys' r → CarriedOut mach f mode bytes xs ys r
in_list mach f mode bytes xs xs' ys ys' r before after carried =
    subst (λ y. CarriedOut mach f mode bytes xs y r) (sym after) (subst (λ x. CarriedOut mach f mode bytes x ys' r) before carried)
