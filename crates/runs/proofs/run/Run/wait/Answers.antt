use Rattle.std.proofs.Common.{◌≡◌, ◌+◌, ◌-◌, ◌≤◌, length, None, sym, subst, arith}
use Rattle.runs.specs.Handing.{Behind, Idles, Passes, Waits}
use Rattle.runs.proofs.Onwards.{onward_none, onward_then, onward_behind}
use Rattle.runs.proofs.Passes.{idles_none, idles_more}
use Rattle.runs.proofs.Rests.{refilled, behind_none, behind_then}
use Rattle.runs.proofs.Waits.{Early, early_first, early_more, waits_none, waits_partner, waits_all}
use Rattle.runs.proofs.run.Run.wait.Goals as goal

pub returns-in_default-clause-waited : goal.returns-in_default-clause-waited
returns-in_default-clause-waited g c =
    let m = g.E.Engine.machine c.args.self.now.engine in
    let f = c.args.self.now.frame in
    behind_none (Waits m m f f) c.args.out.now (waits_none m f (sym c.in_default.ensures.value))

pub loop-init : goal.loop-init
loop-init g c =
    let m = g.E.Engine.machine c.args.self.now.engine in
    let f = c.args.self.now.frame in (
      onward_none m f 0,
      behind_none (Idles m m f f 0) c.args.out.now (idles_none m f),
      behind_none (λ a _ ys _. Early m f 0 a ys) c.args.out.now (early_first m f),
    )

pub loop-preserved : goal.loop-preserved
loop-preserved g c =
    let mach = g.E.Engine.machine in
    let run = c.args.self.now in
    let l = c.loop in
    let q = c.pass-given in
    let m0 = mach run.engine in
    let m1 = mach l.self.engine in
    let m2 = mach q.new.self.engine in
    let n = l.counter - 1 in
    let on = onward_then m0 m1 m2 run.frame l.self.frame q.new.self.frame 0 l.given (l.given + q.result) 0 0 l.invariant.0
    (onward_behind m1 m2 l.self.frame q.new.self.frame l.given q.result 0 q.ensures.onward) in
    let few : l.given ≤ length l.out = omega (arith, l.invariant.0.room, c.requires, l.auto.out) in
    let e : n + 1 ≡ l.counter + 1 - 1 = omega (arith, l.auto.counter) in (
      on,
      subst (λ k. Behind (Idles m0 m2 run.frame q.new.self.frame k) (l.given + q.result) c.args.out.now (refilled l.out l.given q.new.out)) e
          (behind_then (Idles m0 m1 run.frame l.self.frame n) (Passes m1 m2 l.self.frame q.new.self.frame None) (Idles m0 m2 run.frame q.new.self.frame (n + 1))
          l.given q.result c.args.out.now l.out q.new.out
          (λ a b d xs ys zs. idles_more m0 m1 m2 run.frame l.self.frame q.new.self.frame n a b d xs ys zs l.invariant.0.engine on.engine)
          few l.invariant.1 q.ensures.passed),
      λ ys given room left. subst (λ k. Early m0 run.frame k given ys) e
          (early_more m0 m1 run.frame l.self.frame n given (given + l.given) c.in-Some.distance ys _
          (sym c.in-Some.ensures.value) (l.invariant.1 ys given room left) (l.invariant.2 ys given room left)
          (omega (arith, c.len.ensures.value, c.if-len-distance.false))),
    )

pub returns-then-len-distance-clause-waited : goal.returns-then-len-distance-clause-waited
returns-then-len-distance-clause-waited g c =
    let mach = g.E.Engine.machine in
    let run = c.args.self.now in
    let l = c.loop in
    λ ys given room left. waits_partner (mach run.engine) (mach l.self.engine) run.frame l.self.frame (l.counter - 1) given (given + l.given) c.in-Some.distance
    ys _ (sym c.in-Some.ensures.value) (l.invariant.1 ys given room left) (l.invariant.2 ys given room left)
    (omega (arith, c.len.ensures.value, c.if-len-distance.true))

pub returns-clause-waited : goal.returns-clause-waited
returns-clause-waited g c =
    let mach = g.E.Engine.machine in
    let run = c.args.self.now in
    let l = c.loop in
    λ ys given room left. waits_all (mach run.engine) (mach l.self.engine) run.frame l.self.frame (l.counter - 1) given (given + l.given) c.in-Some.distance
    ys _ (sym c.in-Some.ensures.value) (l.invariant.1 ys given room left) (l.invariant.2 ys given room left)
    (omega (arith, c.loop-test.false, c.depth_of-end.ensures))
