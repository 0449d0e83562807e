-- A wait: empty cycles until the next unit may enter.
use Rattle.std.proofs.Common.{◌≡◌, ℕ, zero, suc, ◌+◌, ◌-◌, ◌<◌, ◌≤◌, true, List, length, Some, None, Option, sym, refl, ap, ◌∙◌, subst, ⊎_elim, arith}
use Rattle.std.proofs.lemmas.Bool.{cases_lt}
use Rattle.std.proofs.lemmas.Option.{none-some}
use Rattle.engines.specs.Machines.{Machine}
use Rattle.modes.specs.Schedule.{entry}
use Rattle.modes.specs.Table.{distance_of}
use Rattle.modes.proofs.Fits.{distance_proper}
use Rattle.calls.specs.Stretches.{passed}
use Rattle.calls.specs.Calls.{Calls, order_of, way_of}
use Rattle.calls.specs.Due.{distance_in}
use Rattle.runs.specs.declared.frame.Frame.{Frame}
use Rattle.runs.specs.Views.{view}
use Rattle.runs.specs.Stands.{out_in, AtWork}
use Rattle.runs.specs.Handing.{holding, Handing, Idles, Waits}
use Rattle.runs.proofs.Turns.{pending_size}
use Rattle.runs.proofs.Inside.{passed_early, all_out, waits, has_come}

-- the run's distance is that of the calls
pub distance_is_in : (mach : Machine) (f : Frame) (calls : Calls true) (us : List ℕ) (s h t : ℕ) → AtWork mach f calls us s h t
    → distance_of f.mode f.way ≡ distance_in calls
distance_is_in mach f calls us s h t work = ap (λ m. distance_of m f.way) work.mode ∙ ap (distance_of (order_of calls).mode) work.way

-- as many wait in memory as are inside
pub inside_waits : (mach : Machine) (f : Frame) (calls : Calls true) (us : List ℕ) (s h t : ℕ) → AtWork mach f calls us s h t → length f.pending.items ≡ s - h
inside_waits mach f calls us s h t work = pending_size mach _ _ _ us work.sound _ s h t _ (view f) work.standing

-- after n cycles of a wait the next unit's cycle is not past
abbrev pub Early : (mach : Machine) (f : Frame) (n given : ℕ) (ys : List ℕ) → Type 0
Early mach f n given ys =
    (calls : Calls true) (us xs : List ℕ) (s : ℕ) → Handing mach f calls us s given (passed mach.depth (distance_in calls) s) xs ys
    → passed mach.depth (distance_in calls) s + n ≤ entry mach.depth (distance_in calls) s

pub early_first : (mach : Machine) (f : Frame) (given : ℕ) (ys : List ℕ) → Early mach f 0 given ys
early_first mach f given ys = λ calls us xs s p. omega (arith, passed_early mach.depth (distance_in calls) s)

module _ (mach : Machine) (places : List (Option ℕ)) (f : Frame) (calls : Calls true) (us xs ys : List ℕ) (s given n : ℕ)
    (p : Handing (holding mach places) f calls us s given (passed mach.depth (distance_in calls) s + n) xs ys)
    (early : passed mach.depth (distance_in calls) s + n ≤ entry mach.depth (distance_in calls) s) where
  -- once its partner is out, the next unit's cycle has come
  comes : ((d : ℕ) → distance_in calls ≡ Some d → s - (out_in mach.depth calls + given) < d)
      → Handing (holding mach places) f calls us s given (entry mach.depth (distance_in calls) s) xs ys
      × ((d : ℕ) → distance_in calls ≡ Some d → s - (out_in mach.depth calls + given) < d)
  comes few =
      let w = p.at_work in
      let late = has_come (holding mach places) _ _ _ us _ s _ _ _ (view f) w.standing w.sound.deep (distance_proper (order_of calls).mode (way_of calls)) few in
      let now : passed mach.depth (distance_in calls) s + n ≡ entry mach.depth (distance_in calls) s = omega arith in
      (subst (λ t. Handing (holding mach places) f calls us s given t xs ys) now p, few)

-- a distance is never 0
distance_pos : (calls : Calls true) (d : ℕ) → distance_in calls ≡ Some d → 0 < d
distance_pos calls d e =
    ⊎_elim (λ l. l) (λ l. absurd (distance_proper (order_of calls).mode (way_of calls) (e ∙ ap Some (omega arith)))) (cases_lt 0 d)

-- without a distance a unit waits for nothing
passed_none : (D s : ℕ) → passed D None s ≡ entry D None s
passed_none D zero = refl
passed_none D (suc j) = omega arith

pub waits_none : (mach : Machine) (f : Frame) → distance_of f.mode f.way ≡ None → (given : ℕ) (ys : List ℕ) → Waits mach mach f f given given ys ys
waits_none mach f e given ys = λ calls us xs s p.
    let is : distance_in calls ≡ None = sym (distance_is_in mach f calls us s _ _ p.at_work) ∙ e in
    let now : passed mach.depth (distance_in calls) s ≡ entry mach.depth (distance_in calls) s = rw is (passed_none mach.depth s) in
    (subst (λ t. Handing mach f calls us s given t xs ys) now p, λ d e'. absurd (none-some d (sym is ∙ e')))

module _ (mach mach' : Machine) (f f' : Frame) (n a b d : ℕ) (xs ys : List ℕ) (e : distance_of f.mode f.way ≡ Some d)
    (idle : Idles mach mach' f f' n a b xs ys) (early : Early mach f n a xs) where
  -- one more cycle of a wait for a partner that is inside
  pub early_more : d ≤ length f'.pending.items → Early mach f (n + 1) a xs
  early_more many = λ calls us out s p.
      let q = idle calls us out s _ p in
      let w = q.at_work in
      let is : distance_in calls ≡ Some d = sym (distance_is_in mach f calls us s _ _ p.at_work) ∙ e in
      let size = inside_waits (holding mach mach'.row) f' calls us s _ _ w in
      let l = waits (holding mach mach'.row) _ _ _ us _ s _ _ _ (view f') w.standing d is w.sound.deep (distance_pos calls d is) (omega arith) in
      omega arith

  -- the partner is out
  pub waits_partner : length f'.pending.items < d → Waits mach mach' f f' a b xs ys
  waits_partner few = λ calls us out s p.
      let q = idle calls us out s _ p in
      let is : distance_in calls ≡ Some d = sym (distance_is_in mach f calls us s _ _ p.at_work) ∙ e in
      let size = inside_waits (holding mach mach'.row) f' calls us s _ _ q.at_work in
      comes mach mach'.row f' calls us out ys s b n q (early calls us out s p)
      (λ d' e'. let same : d ≡ d' = let both : Some d ≡ Some d' = sym is ∙ e' in cc in omega arith)

  -- all are out
  pub waits_all : mach.depth - 1 ≤ n → Waits mach mach' f f' a b xs ys
  waits_all long = λ calls us out s p.
      let q = idle calls us out s _ p in
      let w = q.at_work in
      let out_now = all_out (holding mach mach'.row) _ _ _ us _ s _ _ _ (view f') w.standing w.sound.deep (omega arith) in
      comes mach mach'.row f' calls us out ys s b n q (early calls us out s p)
      (λ d' e'. let pos = distance_pos calls d' e' in omega arith)
