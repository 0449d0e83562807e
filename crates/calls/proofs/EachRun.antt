-- What holds of each run, closed or open, of a list of calls whose answers were due.
use Rattle.std.proofs.Common.{◌≡◌, ℕ, ◌-◌, ◌<◌, ◌≤◌, Bool, true, List, [], ◌∷◌, length, get_or, drop, sym, ap, ◌∙◌, subst, inr, ⊎_elim, arith}
use Rattle.std.proofs.lemmas.List.{get_or-take}
use Rattle.modes.specs.declared.way.Way.{Way}
use Rattle.modes.specs.declared.mode.Mode.{Mode}
use Rattle.modes.specs.Table.{row}
use Rattle.modes.specs.Values.{listed, Units, Begins}
use Rattle.modes.specs.Results.{results}
use Rattle.modes.proofs.Openings.{suits_begins}
use Rattle.modes.proofs.Receiving.{take_results}
use Rattle.calls.specs.Calls.{Calls, new, started, fed, drained, closed, order_of, taken, handed_out}
use Rattle.calls.specs.Due.{inside_in, results_in, Follows}
use Rattle.calls.specs.Runs.{Run, run_of, runs_of, Among}
use Rattle.calls.proofs.OpenRun.{progress, balanced}

-- hs is what a mode makes of the first of the units us
pub record Front (F G : ℕ → ℕ) (m : Mode) (way : Way) (ivs us hs : List ℕ) : Type 0 where
  pub begins : Begins m ivs
  pub narrow : Units (row m).width us
  pub few : length hs ≤ length us
  pub first : hs ≡ results F G m way ivs us (length hs)

-- and so agrees with what it makes of all
pub front_at : (F G : ℕ → ℕ) (m : Mode) (way : Way) (ivs us hs : List ℕ) → Front F G m way ivs us hs
    → (i : ℕ) → i < length hs → get_or hs i 0 ≡ get_or (results F G m way ivs us (length us)) i 0
front_at F G m way ivs us hs f i l =
    ap (λ xs. get_or xs i 0) (f.first ∙ sym (take_results F G m way ivs us (length hs) (length us) f.few))
    ∙ get_or-take (length hs) (results F G m way ivs us (length us)) i 0 l

-- what a run handed out is made of the first units that it took
abbrev pub Made : (ℕ → ℕ) → (ℕ → ℕ) → Run → Type 0
Made F G run = Front F G run.order.mode run.way (listed run.order.values) run.taken run.handed_out

among_earlier : (run : Run) (runs : List Run) → Among run (drop 1 runs) → Among run runs
among_earlier run [] a = a
among_earlier run (r ∷ runs) a = inr a

module _ (F G : ℕ → ℕ) (D : ℕ) where
  pub open_run : (calls : Calls true) → Follows F G D calls → Made F G (run_of calls)
  open_run calls f =
      let p = progress F G D calls f in
      let balance = balanced F G D calls f in
      let out : length (taken calls) - inside_in D calls ≡ length (handed_out calls) = omega arith in
      record {
        begins = suits_begins (order_of calls).mode (order_of calls).values (order_of calls).suited;
        narrow = p.narrow;
        few = omega arith;
        first = p.front ∙ ap (results_in F G calls (taken calls) 0) out;
      }

  pub each_run : {b : Bool} (calls : Calls b) → Follows F G D calls → (run : Run) → Among run (runs_of calls) → Made F G run
  each_run new f run a = absurd a
  each_run (started o way calls) f run a =
      ⊎_elim (λ e. subst (Made F G) (sym e) (open_run (started o way calls) f)) (each_run calls f run) a
  each_run (fed us room b calls) f run a =
      ⊎_elim
      (λ e. subst (Made F G) (sym e) (open_run (fed us room b calls) f))
      (λ q. each_run calls f.1 run (among_earlier run (runs_of calls) q)) a
  each_run (drained room b calls) f run a =
      ⊎_elim
      (λ e. subst (Made F G) (sym e) (open_run (drained room b calls) f))
      (λ q. each_run calls f.1 run (among_earlier run (runs_of calls) q)) a
  each_run (closed told calls) f run a = each_run calls f.1 run a
