-- The units of a job on their way through a run.
use Rattle.std.proofs.Common.{◌≡◌, ℕ, ◌+◌, ◌^◌, ◌<◌, ◌≤◌, true, List, [], ◌∷◌, ◌++◌, length, take, drop, Some, None, Ok, Err, Result, sym, refl, ap, ◌∙◌, subst, mul-le-mul_left, arith}
use Rattle.std.proofs.lemmas.List.{length-append, take_at}
use Rattle.std.proofs.lemmas.Bool.{cond-true, lt-ltb}
use Rattle.refusals.specs.declared.Refusal.{Refusal}
use Rattle.engines.specs.Machines.{Machine}
use Rattle.engines.specs.Depths.{the_greatest_depth}
use Rattle.modes.specs.declared.mode.Mode.{Mode}
use Rattle.modes.specs.declared.way.Way.{Way}
use Rattle.modes.specs.declared.order.Order.{Order}
use Rattle.modes.specs.Table.{row, distance_of}
use Rattle.modes.specs.Values.{listed}
use Rattle.modes.specs.Results.{results}
use Rattle.calls.specs.Limits.{unit_limit}
use Rattle.calls.specs.Calls.{gave, Calls, fed, drained, taken, handed_out}
use Rattle.modes.specs.Widths.{first_wide}
use Rattle.calls.specs.Due.{width_in, count_in, inside_in, Follows}
use Rattle.calls.proofs.OpenRun.{balanced}
use Rattle.runs.specs.declared.frame.Frame.{Frame}
use Rattle.runs.specs.Stands.{Stands}
use Rattle.runs.specs.Handing.{Answered, Fed, Drained}
use Rattle.runs.specs.Whole.{cycles_for}
use Rattle.runs.proofs.FeedReplies.{accepts}
use Rattle.runs.proofs.DrainReplies.{drain_accepts}
use Rattle.runs.proofs.Emptying.{drained_empty, results_out}
use Rattle.runs.proofs.Numbers.{taken_told, cycles_told}
use Rattle.job_format.specs.UnitBytes.{unit_size, bytes_of, units_written, written_end}
use Rattle.job_format.specs.EndAfter.{end_after}
use Rattle.job_format.proofs.Sizes.{length_bytes_of}
use Rattle.job_format.proofs.WrittenOn.{written_on, written_end_on}
use Rattle.jobs.specs.Carrying.{UnderWay, AllOut, Room, FedOn, DrainedOff}
use Rattle.jobs.proofs.Drains.{few_inside, cycles_of_drain}

-- an answer that gave units tells their number, and they stand first in the list
told : (xs ys hs : List ℕ) (r : Result ℕ Refusal) → Answered xs ys r (gave hs) → (r ≡ Ok (length hs)) × (ys ≡ hs ++ drop (length hs) xs)
told xs ys hs (Ok n) a = (ap Ok a.0, a.1)
told xs ys hs (Err e) a = absurd a

ended : (r : Result (Unit {0}) Refusal) (end n : ℕ) → end_after r end ≡ Some n → (r ≡ Ok tt) × (end ≡ n)
ended (Ok done) end n e = (refl, cc)
ended (Err e') end n e = cc

module _ (mach mach' : Machine) (f f' : Frame) (order : Order) (way : Way) (us xs ys : List ℕ) (offset : ℕ)
    (uw : UnderWay mach f order way us xs ys offset) where
  abbrev w : ℕ
  w = (row order.mode).width

  width_is : width_in uw.calls ≡ w
  width_is = ap (λ o. (row o.mode).width) uw.order_is

  -- units that are handed out next are written behind those before them
  handed_on : (F G : ℕ → ℕ) (D : ℕ) (calls : Calls true) (hs ks ys' : List ℕ) (offset' : ℕ) (r : Result (Unit {0}) Refusal) → Follows F G D calls
      → handed_out calls ≡ handed_out uw.calls ++ hs → Room order (length (taken calls)) xs → ks ≡ hs → end_after r offset' ≡ written_end w ks ys offset
      → ys' ≡ units_written w ks ys offset
      → ((r ≡ Ok tt) × (offset' ≡ length (bytes_of w (handed_out calls))))
      × (ys' ≡ bytes_of w (handed_out calls) ++ drop (length (bytes_of w (handed_out calls))) xs)
  handed_on F G D calls hs ks ys' offset' r follows more room same ends writes =
      let before = handed_out uw.calls in
      let few : length (handed_out calls) ≤ length (taken calls) = omega (arith, balanced F G D calls follows) in
      let total = length_bytes_of w (handed_out calls) in
      let fits : length (bytes_of w (handed_out calls)) ≤ length xs = omega (arith, mul-le-mul_left (unit_size w) few) in
      let both : length (bytes_of w (before ++ hs)) ≤ length xs = subst (λ l. length (bytes_of w l) ≤ length xs) more fits in
      let here = uw.offset_is in (
        ended r offset' _
            (ends ∙ ap (λ l. written_end w l ys offset) same ∙ ap (written_end w hs ys) here
            ∙ written_end_on w before hs xs ys uw.output both
            ∙ ap (λ l. Some (length (bytes_of w l))) (sym more)),
        writes ∙ ap (λ l. units_written w l ys offset) same ∙ ap (units_written w hs ys) here
            ∙ written_on w before hs xs ys uw.output both
            ∙ ap (λ l. bytes_of w l ++ drop (length (bytes_of w l)) xs) (sym more),
      )

  module _ (u : ℕ) (rs rs' : List ℕ) (r : Result ℕ Refusal) (narrow : u < 2 ^ w) (few : length us + 1 ≤ unit_limit) (large : the_greatest_depth ≤ length rs)
      (feeds : Fed mach mach' f f' (u ∷ []) rs rs' r) where
    -- a unit that fits is not refused
    pub taken_in : (hs : List ℕ) × (r ≡ Ok (length hs)) × (rs' ≡ hs ++ drop (length hs) rs) × Stands mach' f' (fed (u ∷ []) (length rs) (gave hs) uw.calls)
    taken_in =
        let calls = uw.calls in
        let count : count_in calls ≡ length us = omega (arith, uw.first_run, ap length uw.took) in
        let fits : u < 2 ^ width_in calls = subst (λ v. u < 2 ^ v) (sym width_is) narrow in
        let none : first_wide (width_in calls) 0 (u ∷ []) ≡ None = cond-true _ _ _ (lt-ltb u (2 ^ width_in calls) fits) in
        let a = feeds calls uw.stands in
        let yes = accepts (inside_in mach.depth calls) (width_in calls) (count_in calls) (u ∷ []) (length rs)
        (omega (arith, few_inside mach f calls uw.stands)) none (omega arith) in
        let t = told rs rs' _ r (subst (Answered rs rs' r) (yes _) a.0) in
        (_, t.0, t.1, subst (λ b. Stands mach' f' (fed (u ∷ []) (length rs) b calls)) (yes _) a.1)

    -- and so the run goes on
    pub fed_on : (given : ℕ) → r ≡ Ok given → (ys' : List ℕ) (offset' : ℕ) (r' : Result (Unit {0}) Refusal) → Room order (length us + 1) xs
        → end_after r' offset' ≡ written_end w (take given rs') ys offset → ys' ≡ units_written w (take given rs') ys offset
        → (r' ≡ Ok tt) × UnderWay mach' f' order way (us ++ u ∷ []) xs ys' offset'
    fed_on given is ys' offset' r' room ends writes =
        let t = taken_in in
        let hs = t.0 in
        let calls = fed (u ∷ []) (length rs) (gave hs) uw.calls in
        let took : taken calls ≡ us ++ u ∷ [] = ap (λ l. l ++ u ∷ []) uw.took in
        let longer = length-append us (u ∷ []) in
        let count : given ≡ length hs = cc (is, t.1) in
        let first : take given rs' ≡ hs = ap (take given) t.2 ∙ take_at hs (drop (length hs) rs) given (sym count) in
        let p = handed_on mach'.forward mach'.inverse mach'.depth calls hs (take given rs') ys' offset' r' t.3.follows refl
        (subst (λ n. Room order n xs) (sym (ap length took ∙ longer)) room) first ends writes in (
          p.0.0,
          record {
            calls = calls;
            stands = t.3;
            order_is = uw.order_is;
            way_is = uw.way_is;
            took = took;
            one_stretch = omega (arith, uw.one_stretch, longer);
            undrained = uw.undrained;
            first_run = uw.first_run;
            offset_is = p.0.1;
            output = p.1;
          },
        )

  module _ (rs rs' : List ℕ) (r : Result ℕ Refusal) (large : the_greatest_depth ≤ length rs) (drains : Drained mach mach' f f' rs rs' r) where
    -- a drain with so much room is not refused
    pub taken_out : (ks : List ℕ) × (r ≡ Ok (length ks)) × (rs' ≡ ks ++ drop (length ks) rs) × Stands mach' f' (drained (length rs) (gave ks) uw.calls)
    taken_out =
        let calls = uw.calls in
        let a = drains calls uw.stands in
        let yes = drain_accepts (inside_in mach.depth calls) (length rs) (omega (arith, few_inside mach f calls uw.stands)) in
        let t = told rs rs' _ r (subst (Answered rs rs' r) (yes _) a.0) in
        (_, t.0, t.1, subst (λ b. Stands mach' f' (drained (length rs) b calls)) (yes _) a.1)

    -- and then all results are out
    pub drained_off : (given : ℕ) → r ≡ Ok given → (ys' : List ℕ) (offset' : ℕ) (r' : Result (Unit {0}) Refusal) → Room order (length us) xs
        → end_after r' offset' ≡ written_end w (take given rs') ys offset → ys' ≡ units_written w (take given rs') ys offset
        → (r' ≡ Ok tt) × AllOut mach' f' order way us xs ys' offset'
    drained_off given is ys' offset' r' room ends writes =
        let t = taken_out in
        let ks = t.0 in
        let stands = t.3 in
        let D = mach'.depth in
        let calls = drained (length rs) (gave ks) uw.calls in
        let count : given ≡ length ks = cc (is, t.1) in
        let first : take given rs' ≡ ks = ap (take given) t.2 ∙ take_at ks (drop (length ks) rs) given (sym count) in
        let p = handed_on mach'.forward mach'.inverse D calls ks (take given rs') ys' offset' r' stands.follows refl
        (subst (λ n. Room order n xs) (sym (ap length uw.took)) room) first ends writes in
        let out = results_out mach' f' calls stands (drained_empty _ _ D uw.calls (length rs) ks stands.follows) in
        let cycles = cycles_told mach' f' calls stands
        ∙ cycles_of_drain _ _ D stands.at_work.sound.deep uw.calls uw.undrained us uw.one_stretch (length rs) ks stands.follows in (
          p.0.0,
          record {
            units = taken_told mach' f' calls stands ∙ ap length uw.took;
            cycles = cycles ∙ ap (λ δ. cycles_for D δ us) (λ i. distance_of (uw.order_is i).mode (uw.way_is i));
            all = bytes_of w (handed_out calls);
            all_is =
                ap (bytes_of w)
                (out
                ∙ (λ i. results mach'.forward mach'.inverse (uw.order_is i).mode (uw.way_is i) (listed (uw.order_is i).values) (uw.took i) (length (uw.took i))));
            offset_is = p.0.1;
            output = p.1;
          },
        )

pub err_is_not_ok : {A : Type 0} (e : Refusal) (x : A) → Err e ≡ Ok x → ⊥
err_is_not_ok e x is = cc

-- ---- the same by the calls' contracts: u is the unit, the list rs takes what comes out

module _ (mach mach' : Machine) (f f' : Frame) (mode : Mode) (u offset : ℕ) (ys rs rs' : List ℕ) (large : the_greatest_depth ≤ length rs) where
  pub feed_not_refused : (e e' : Refusal) → Fed mach mach' f f' (u ∷ []) rs rs' (Err e) → FedOn mach mach' f f' mode u offset offset ys ys (Err e')
  feed_not_refused e e' feeds order way us xs same uw narrow few room =
      absurd (err_is_not_ok e _ (taken_in mach mach' f f' order way us xs ys offset uw u rs rs' (Err e) (subst (λ m. u < 2 ^ (row m).width) (sym same) narrow) few large feeds).1)

  pub feed_goes_on : (given : ℕ) (ys' : List ℕ) (offset' : ℕ) (r : Result (Unit {0}) Refusal) → Fed mach mach' f f' (u ∷ []) rs rs' (Ok given)
      → end_after r offset' ≡ written_end (row mode).width (take given rs') ys offset → ys' ≡ units_written (row mode).width (take given rs') ys offset
      → FedOn mach mach' f f' mode u offset offset' ys ys' r
  feed_goes_on given ys' offset' r feeds ends writes order way us xs same uw narrow few room =
      fed_on mach mach' f f' order way us xs ys offset uw u rs rs' (Ok given) (subst (λ m. u < 2 ^ (row m).width) (sym same) narrow) few large feeds given refl ys' offset' r room
      (subst (λ m. end_after r offset' ≡ written_end (row m).width (take given rs') ys offset) (sym same) ends)
      (subst (λ m. ys' ≡ units_written (row m).width (take given rs') ys offset) (sym same) writes)

module _ (mach mach' : Machine) (f f' : Frame) (mode : Mode) (offset : ℕ) (ys rs rs' : List ℕ) (large : the_greatest_depth ≤ length rs) where
  pub drain_not_refused : (e e' : Refusal) → Drained mach mach' f f' rs rs' (Err e) → DrainedOff mach mach' f f' mode offset offset ys ys (Err e')
  drain_not_refused e e' drains order way us xs same uw room =
      absurd (err_is_not_ok e _ (taken_out mach mach' f f' order way us xs ys offset uw rs rs' (Err e) large drains).1)

  pub drain_ends : (given : ℕ) (ys' : List ℕ) (offset' : ℕ) (r : Result (Unit {0}) Refusal) → Drained mach mach' f f' rs rs' (Ok given)
      → end_after r offset' ≡ written_end (row mode).width (take given rs') ys offset → ys' ≡ units_written (row mode).width (take given rs') ys offset
      → DrainedOff mach mach' f f' mode offset offset' ys ys' r
  drain_ends given ys' offset' r drains ends writes order way us xs same uw room =
      drained_off mach mach' f f' order way us xs ys offset uw rs rs' (Ok given) large drains given refl ys' offset' r room
      (subst (λ m. end_after r offset' ≡ written_end (row m).width (take given rs') ys offset) (sym same) ends)
      (subst (λ m. ys' ≡ units_written (row m).width (take given rs') ys offset) (sym same) writes)
