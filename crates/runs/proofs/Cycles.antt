-- One cycle of a run.
use Rattle.std.proofs.Common.{◌≡◌, ℕ, ◌+◌, [], ◌∷◌, ◌++◌, get_or, Some, None, Option, sym, ap, ◌∙◌, subst, arith}
use Rattle.engines.specs.declared.work.Work.{Work}
use Rattle.engines.specs.Machines.{Machine, directed, result, answered, turned}
use Rattle.modes.specs.declared.mode.Mode.{Mode}
use Rattle.modes.specs.declared.way.Way.{Way}
use Rattle.modes.proofs.Fits.{values_within}
use Rattle.runs.specs.Steps.{result_at, View, entered, counted}
use Rattle.runs.specs.Views.{Admitted, Released}
use Rattle.runs.specs.Standing.{SameEngine, Outcome, Cycled}
use Rattle.runs.proofs.Turns.{moved_on, pending_size, few_inside, links_size, joined_none, result_is, joined_unit, released}

pub turned_same : (mach mach' : Machine) (work : Option Work) → mach' ≡ turned mach work → SameEngine mach mach'
turned_same mach mach' work e = (ap (λ x. x.forward) e, ap (λ x. x.inverse) e, ap (λ x. x.depth) e)

-- a unit or none is admitted, the engine is clocked, the cycle counted, and what came out released
module _ (mach mach' : Machine) (m : Mode) (way : Way) (v v1 v2 : View) (work : Option Work) (answer r : Option ℕ)
    (ea : answer ≡ answered mach work) (em : mach' ≡ turned mach work) (rel : Released m way (counted v1) v2 answer r) where
  without_unit : Admitted m way v v1 None work → Cycled mach mach' m way v v2 None r
  without_unit adm ivs us base s h t past ok st =
      let rel1 : Released m way (counted v) v2 answer r = subst (λ x. Released m way (counted x) v2 answer r) adm.1 rel in
      subst (λ x. Outcome x m way ivs us base s h t past v2 r) (sym (em ∙ ap (turned mach) adm.0))
      (released mach m way ivs us ok base s h t past (mach.row ++ None ∷ []) v (joined_none mach m way ivs us ok base s h t past v st)
      v2 answer r (ea ∙ ap (answered mach) adm.0) rel1)

  with_unit : (u : ℕ) → Admitted m way v v1 (Some u) work → Cycled mach mach' m way v v2 (Some u) r
  with_unit u adm ivs us base s h t past ok st en =
      let shallow = ok.shallow in
      let waiting = pending_size mach m way ivs us ok base s h t past v st in
      let inside = few_inside mach m way ivs us ok base s h t past v st in
      let long = links_size mach m way ivs us ok base s h t past v st in
      let few = values_within m in
      let in_frame = adm (omega arith) (omega arith) in
      let y = result_at mach.forward mach.inverse m way ivs us (base + s) in
      let e = ap (result (directed mach.forward mach.inverse)) in_frame.0 ∙ ap Some (result_is mach m way ivs us ok base s h t past v st u en) in
      let rel1 : Released m way (counted (entered m way v u)) v2 answer r = subst (λ x. Released m way (counted x) v2 answer r) in_frame.1 rel in
      subst (λ x. Outcome x m way ivs us base (s + 1) h t past v2 r) (sym (em ∙ ap (λ x. moved_on mach (mach.row ++ x ∷ [])) e))
      (released mach m way ivs us ok base (s + 1) h t past (mach.row ++ Some y ∷ []) (entered m way v u) (joined_unit mach m way ivs us ok base s h t past v st u en)
      v2 answer r (ea ∙ ap (λ x. get_or (mach.row ++ x ∷ []) 0 None) e) rel1)

  pub cycled : (unit : Option ℕ) → Admitted m way v v1 unit work → Cycled mach mach' m way v v2 unit r
  cycled None adm = without_unit adm
  cycled (Some u) adm = with_unit u adm

-- the same where mode, way and view are known by equations
pub released_at : (m m' : Mode) (way way' : Way) (v v' v'' : View) (answer r : Option ℕ) → m' ≡ m → way' ≡ way → v' ≡ v → Released m' way' v' v'' answer r
    → Released m way v v'' answer r
released_at m m' way way' v v' v'' answer r em ew ev rel =
    rw (sym em, sym ew, sym ev) rel
