use Rattle.std.proofs.Common.{◌≡◌, ◌-◌, ◌≤◌, length, replicate, take, None, ap, ◌∙◌, arith}
use Rattle.std.proofs.lemmas.List.{take-replicate, length-take}
use Rattle.engines.specs.declared.engine.TheConstants.{GREATEST_DEPTH}
use Rattle.engines.proofs.ManyCycles.{row_left_empty}
use Rattle.engines.proofs.clocking.flush.Goals as goal

pub slice_bounds-nothing-count : goal.slice_bounds-nothing-count
slice_bounds-nothing-count g c =
    let e = c.args.engine.now in omega (arith, c.depth_of.ensures, g.met.E.Engine.places e)

pub slice_bounds-nothing-end : goal.slice_bounds-nothing-end
slice_bounds-nothing-end g c =
    let e = c.args.engine.now in omega (arith, c.depth_of.ensures, g.met.E.Engine.shallow e)

pub slice_bounds-places-length : goal.slice_bounds-places-length
slice_bounds-places-length g c =
    let e = c.args.engine.now in simp length-take (omega (arith, c.depth_of.ensures, g.met.E.Engine.shallow e))

pub returns-clause-after : goal.returns-clause-after
returns-clause-after g c =
    let e = c.args.engine.now in
    let m = g.E.Engine.machine e in
    let places = g.met.E.Engine.places e in
    let n = c.depth_of.result - 1 in
    let all : n ≡ length m.row = omega (arith, places, c.depth_of.ensures) in
    let few : n ≤ GREATEST_DEPTH = omega (arith, g.met.E.Engine.shallow e) in
    let nothing : take n (replicate GREATEST_DEPTH None) ≡ replicate (length m.row) None =
    take-replicate n GREATEST_DEPTH None few ∙ ap (λ k. replicate k None) all in
    row_left_empty m (g.E.Engine.machine c.clock_each.new.engine) _ nothing places c.clock_each.ensures.after
