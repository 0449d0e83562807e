-- A job is one run: fed with all its units, and drained.
use Rattle.std.proofs.Common.{◌≡◌, ℕ, ◌+◌, ◌-◌, ◌≤◌, true, List, length, sym, refl, ap, ◌∙◌, subst, zero-add, arith, lit≤}
use Rattle.modes.specs.declared.order.Order.{Order}
use Rattle.modes.specs.declared.way.Way.{Way}
use Rattle.modes.specs.Orders.{opening}
use Rattle.modes.specs.Table.{row}
use Rattle.modes.specs.Values.{listed}
use Rattle.modes.specs.Results.{results}
use Rattle.calls.specs.Calls.{Calls, gave, new, started, fed, drained, handed_out}
use Rattle.calls.specs.Stretches.{inside}
use Rattle.calls.specs.Due.{distance_in, width_in, count_in, inside_in, results_in, due_feed, due_drain, Follows}
use Rattle.calls.proofs.OpenRun.{progress}
use Rattle.calls.proofs.Stretching.{inside_most}
use Rattle.runs.proofs.FeedReplies.{accepts}
use Rattle.runs.proofs.DrainReplies.{drain_accepts}
use Rattle.runs.proofs.Emptying.{drained_empty, cycles_of_feed}
use Rattle.job_format.specs.UnitBytes.{units_in, bytes_of}
use Rattle.job_format.proofs.JobBytes.{not_refused}
use Rattle.job_format.proofs.Sizes.{units_in_few}
use Rattle.jobs.specs.Keys.{Words, one, three, keys_loaded, machine_under}
use Rattle.jobs.specs.Asking.{opening_of, data_checked}
use Rattle.jobs.specs.Meaning.{OneRun, JobsAreRuns}
use Rattle.jobs.proofs.Checked.{Passing, passing}

deep_under : (words : Words) → 1 ≤ (machine_under words).depth
deep_under (one k) = lit≤ tt
deep_under (three a b c) = lit≤ tt

-- one feed with room for all units, and the drain
module _ (words : Words) (order : Order) (way : Way) (bytes : List ℕ) (room : ℕ) (pass : Passing order.mode bytes room) where
  abbrev F : ℕ → ℕ
  F = (machine_under words).forward

  abbrev G : ℕ → ℕ
  G = (machine_under words).inverse

  abbrev D : ℕ
  D = (machine_under words).depth

  abbrev us : List ℕ
  us = units_in (row order.mode).width bytes

  abbrev start : Calls true
  start = started order way new

  abbrev hs : List ℕ
  hs = results_in F G start us (0 - inside_in D start) (0 + length us - inside D (distance_in start) (0 + length us))

  feeds : due_feed F G D start us (length us) ≡ gave hs
  feeds =
      accepts (inside_in D start) (width_in start) (count_in start) us (length us) (omega arith) pass.narrow
      (omega (arith, units_in_few (row order.mode).width bytes, pass.few)) (gave hs)

  abbrev after : Calls true
  after = fed us (length us) (gave hs) start

  abbrev ks : List ℕ
  ks = results_in F G after us (length us - inside_in D after) (length us)

  drains : due_drain F G D after (length us) ≡ gave ks
  drains = drain_accepts (inside_in D after) (length us) (omega (arith, inside_most D (distance_in start) (0 + length us))) (gave ks)

  abbrev all_calls : Calls true
  all_calls = drained (length us) (gave ks) after

  all_follow : Follows F G D all_calls
  all_follow = (sym drains, (sym feeds, tt))

  none_inside : inside_in D all_calls ≡ 0
  none_inside = drained_empty F G D after (length us) ks all_follow

  all_out : handed_out all_calls ≡ results F G order.mode way (listed order.values) us (length us)
  all_out =
      let all : length us - inside_in D all_calls ≡ length us = omega (arith, none_inside) in
      (progress F G D all_calls all_follow).front ∙ ap (results F G order.mode way (listed order.values) us) all

  one_run : OneRun (record { words = words; opening = opening order; way = way; bytes = bytes }) order
  one_run =
      record {
        calls = all_calls;
        follows = all_follow;
        first = refl;
        opened = refl;
        heads = refl;
        took = refl;
        gave_all = ap (bytes_of (row order.mode).width) all_out;
        empty = none_inside;
        units = refl;
        cycles = cycles_of_feed F G D (deep_under words) start refl (length us) (length us) hs us ks all_follow ∙ zero-add _;
      }

pub jobs_are_runs : JobsAreRuns
jobs_are_runs p room a asked order says =
    not_refused (keys_loaded p.keys) _ a asked (λ words _ e.
    not_refused (opening_of p) _ a e (λ o _ e.
    not_refused (data_checked o.0.mode p.«data» room) _ a e (λ _ checked e.
    let is : record { words = words; opening = o.0; way = o.1; bytes = p.«data» } ≡ a = cc in
    let same : o.0 ≡ opening order = ap (λ x. x.opening) is ∙ sym says in
    let pass = subst (λ x. Passing x.mode p.«data» room) same (passing o.0.mode p.«data» room checked) in
    subst (λ x. OneRun x order) is
    (subst (λ x. OneRun (record { words = words; opening = x; way = o.1; bytes = p.«data» }) order) (sym same) (one_run words order o.1 p.«data» room pass)))))
