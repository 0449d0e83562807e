use Rattle.std.proofs.Common.{◌≡◌, ◌+◌, ◌≤◌, length, get_or, Some, refl, subst, arith}
use Rattle.runs.specs.Handing.{Onward, Waits, Passes}
use Rattle.runs.proofs.Onwards.{onward_none, onward_then, onward_behind}
use Rattle.runs.proofs.Rests.{refilled, on_rest, size_refilled}
use Rattle.runs.proofs.Pumps.{pumps_none, pumps_more}
use Rattle.runs.proofs.run.Run.pump.Goals as goal

pub loop-unit-init : goal.loop-unit-init
loop-unit-init g c =
    let mach = g.E.Engine.machine in
    let run = c.args.self.now in (
      onward_none (mach run.engine) run.frame 0,
      pumps_none (mach run.engine) run.frame c.args.units.now c.args.out.now,
      λ _. (refl, refl, refl),
    )

pub loop-unit-preserved : goal.loop-unit-preserved
loop-unit-preserved g c =
    let mach = g.E.Engine.machine in
    let run = c.args.self.now in
    let l = c.loop-unit in
    let q = c.wait-given in
    let p = c.pass-given in
    let m0 = mach run.engine in
    let m1 = mach l.self.engine in
    let m2 = mach q.new.self.engine in
    let m3 = mach p.new.self.engine in
    let k = l.unit-index in
    let waited = onward_then m0 m1 m2 run.frame l.self.frame q.new.self.frame 0 l.given (l.given + q.result) k 0 l.invariant.0
    (onward_behind m1 m2 l.self.frame q.new.self.frame l.given q.result 0 q.ensures.onward) in
    let passed = onward_then m0 m2 m3 run.frame q.new.self.frame p.new.self.frame 0 (l.given + q.result) (l.given + q.result + p.result) (k + 0) 1 waited
    (onward_behind m2 m3 q.new.self.frame p.new.self.frame (l.given + q.result) p.result 1 p.ensures.onward) in
    let e : k + 0 + 1 ≡ k + 1 = omega arith in
    let few : l.given ≤ length l.out = omega (arith, l.invariant.0.room, c.requires.room, c.loop-unit-test.true, l.auto.out) in
    let size = size_refilled l.out q.new.out l.given few q.auto.out in
    let still : l.given + q.result ≤ length l.out = omega (arith, waited.room, c.requires.room, c.loop-unit-test.true, l.auto.out) in
    let wait = on_rest (Waits m1 m2 l.self.frame q.new.self.frame) l.given q.result l.out q.new.out few q.ensures.waited in
    let pass = on_rest (Passes m2 m3 q.new.self.frame p.new.self.frame (Some (get_or c.args.units.now k 0))) (l.given + q.result) p.result (refilled l.out l.given q.new.out) p.new.out
    (omega (arith, size)) p.ensures.passed in (
      subst (λ n. Onward m0 m3 run.frame p.new.self.frame 0 (l.given + q.result + p.result) n) e passed,
      pumps_more m0 m1 m2 m3 run.frame l.self.frame q.new.self.frame p.new.self.frame c.args.units.now k (get_or c.args.units.now k 0)
          l.given (l.given + q.result) (l.given + q.result + p.result) c.args.out.now l.out _ _
          l.invariant.0.engine waited.engine passed.engine c.loop-unit-test.true refl l.invariant.1 wait pass,
      λ z. absurd (omega arith),
    )
