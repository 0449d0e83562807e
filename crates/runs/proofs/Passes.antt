-- One cycle of a feed or a drain, and cycles with no unit one after the other.
use Rattle.std.proofs.Common.{◌≡◌, ℕ, ◌+◌, ◌≤◌, true, List, ◌++◌, map, length, drop, Some, None, Option, sym, ap, ◌∙◌, subst, arith}
use Rattle.std.specs.List.{range_with_len}
use Rattle.engines.specs.Machines.{Machine}
use Rattle.modes.specs.declared.mode.Mode.{Mode}
use Rattle.modes.specs.declared.way.Way.{Way}
use Rattle.modes.specs.Values.{listed}
use Rattle.calls.specs.Calls.{Calls, order_of, way_of}
use Rattle.runs.specs.declared.frame.Frame.{Frame}
use Rattle.runs.specs.Steps.{one_if}
use Rattle.runs.specs.Views.{view, Kept}
use Rattle.runs.specs.Standing.{SameEngine, Standing, Outcome, Cycled}
use Rattle.runs.specs.Stands.{units_earlier, cycles_earlier, out_in, AtWork}
use Rattle.runs.specs.Handing.{written, holding, unit_in, Handing, Passes, Idles}
use Rattle.runs.proofs.Onwards.{same_holding}
use Rattle.runs.proofs.Outputs.{output_more}

-- what came out is handed out
module _ (mach : Machine) (places : List (Option ℕ)) (f f' : Frame) (calls : Calls true) (us xs ys : List ℕ) (s h s' given t : ℕ)
    (work : AtWork mach f calls us s h t) (kept : Kept f f')
    (output : ys ≡ map (unit_in mach calls us) (range_with_len (units_earlier calls + out_in mach.depth calls) given) ++ drop given xs) where
  abbrev m : Mode
  m = (order_of calls).mode

  abbrev way : Way
  way = way_of calls

  abbrev ivs : List ℕ
  ivs = listed (order_of calls).values

  abbrev next : Machine
  next = holding mach places

  still_at_work : (g : ℕ) → Standing next m way ivs us (units_earlier calls) s' g (t + 1) (cycles_earlier mach.depth calls) (view f')
      → AtWork next f' calls us s' g (t + 1)
  still_at_work g st =
      record {
        sound = record { deep = work.sound.deep; shallow = work.sound.shallow; begins = work.sound.begins };
        mode = kept.0 ∙ work.mode;
        way = kept.1 ∙ work.way;
        before = kept.2 ∙ work.before;
        standing = st;
      }

  handed : (r : Option ℕ) → given + one_if r ≤ length ys
      → Outcome next m way ivs us (units_earlier calls) s' (out_in mach.depth calls + given) t (cycles_earlier mach.depth calls) (view f') r
      → Handing next f' calls us s' (given + one_if r) (t + 1) xs (written ys given r)
  handed None room st =
      let e : given ≡ given + 0 = omega arith in
      subst (λ n. Handing next f' calls us s' n (t + 1) xs ys) e
      (record { at_work = still_at_work (out_in mach.depth calls + given) st; output = output })
  handed (Some x) room st =
      let a = units_earlier calls + out_in mach.depth calls in
      let e : out_in mach.depth calls + given + 1 ≡ out_in mach.depth calls + (given + 1) = omega arith in
      let i : units_earlier calls + (out_in mach.depth calls + given) ≡ a + given = omega arith in
      record {
        at_work = subst (λ g. AtWork next f' calls us s' g (t + 1)) e (still_at_work (out_in mach.depth calls + given + 1) st.2);
        output = output_more (unit_in mach calls us) a given x xs ys output (omega arith) (st.1 ∙ ap (unit_in mach calls us) i);
      }

-- what a cycle does in the mode and way of the calls
cycled_in : (mach mach' : Machine) (f f' : Frame) (calls : Calls true) (us : List ℕ) (s h t : ℕ) (unit r : Option ℕ) → AtWork mach f calls us s h t
    → Cycled mach mach' f.mode f.way (view f) (view f') unit r → Cycled mach mach' (order_of calls).mode (way_of calls) (view f) (view f') unit r
cycled_in mach mach' f f' calls us s h t unit r work cyc =
    rw (sym work.way, sym work.mode) cyc

passes_on : (mach : Machine) (places : List (Option ℕ)) (f f' : Frame) (unit r : Option ℕ) (given : ℕ) (ys : List ℕ) → Kept f f' → given + one_if r ≤ length ys
    → Cycled mach (holding mach places) f.mode f.way (view f) (view f') unit r
    → Passes mach (holding mach places) f f' unit given (given + one_if r) ys (written ys given r)
passes_on mach places f f' None r given ys kept room cyc = λ calls us xs s t p.
    let h = out_in mach.depth calls + given in
    let w = p.at_work in
    handed mach places f f' calls us xs ys s h s given t w kept p.output r room
    (cycled_in mach (holding mach places) f f' calls us s h t None r w cyc _ us _ s h t _ w.sound w.standing)
passes_on mach places f f' (Some u) r given ys kept room cyc = λ calls us xs s t p en.
    let h = out_in mach.depth calls + given in
    let w = p.at_work in
    handed mach places f f' calls us xs ys s h (s + 1) given t w kept p.output r room
    (cycled_in mach (holding mach places) f f' calls us s h t (Some u) r w cyc _ us _ s h t _ w.sound w.standing en)

pub passes : (mach mach' : Machine) (f f' : Frame) (unit r : Option ℕ) (given given' : ℕ) (ys ys' : List ℕ) → SameEngine mach mach' → Kept f f'
    → given + one_if r ≤ length ys → given' ≡ given + one_if r → ys' ≡ written ys given r
    → Cycled mach mach' f.mode f.way (view f) (view f') unit r
    → Passes mach mach' f f' unit given given' ys ys'
passes mach mach' f f' unit r given given' ys ys' same kept room eg ey cyc =
    let e = same_holding mach mach' same in
    rw (eg, ey, e)
    (passes_on mach mach'.row f f' unit r given ys kept room (subst (λ x. Cycled mach x f.mode f.way (view f) (view f') unit r) e cyc))

-- the same, seen from the machine with which a call began
pub passes_from : (mach mach' mach'' : Machine) (f f' : Frame) (unit : Option ℕ) (given given' : ℕ) (ys ys' : List ℕ) → SameEngine mach mach' → SameEngine mach mach''
    → Passes mach' mach'' f f' unit given given' ys ys' → Passes (holding mach mach'.row) (holding mach mach''.row) f f' unit given given' ys ys'
passes_from mach mach' mach'' f f' unit given given' ys ys' same same' p =
    subst (λ x. Passes (holding mach mach'.row) x f f' unit given given' ys ys') (same_holding mach mach'' same')
    (subst (λ x. Passes x mach'' f f' unit given given' ys ys') (same_holding mach mach' same) p)

pub idles_none : (mach : Machine) (f : Frame) (given : ℕ) (ys : List ℕ) → Idles mach mach f f 0 given given ys ys
idles_none mach f given ys = λ calls us xs s t p. let e : t ≡ t + 0 = omega arith in subst (λ k. Handing mach f calls us s given k xs ys) e p

pub idles_more : (mach mach' mach'' : Machine) (f f' f'' : Frame) (n a b c : ℕ) (xs ys zs : List ℕ) → SameEngine mach mach' → SameEngine mach mach''
    → Idles mach mach' f f' n a b xs ys → Passes mach' mach'' f' f'' None b c ys zs → Idles mach mach'' f f'' (n + 1) a c xs zs
idles_more mach mach' mach'' f f' f'' n a b c xs ys zs same same' p q = λ calls us out s t h.
    let e : t + n + 1 ≡ t + (n + 1) = omega arith in
    subst (λ k. Handing (holding mach mach''.row) f'' calls us s c k out zs) e
    (passes_from mach mach' mach'' f' f'' None b c ys zs same same' q calls us out s (t + n) (p calls us out s t h))
