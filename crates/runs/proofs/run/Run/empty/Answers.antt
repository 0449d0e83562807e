use Rattle.std.proofs.Common.{◌≡◌, ◌+◌, ◌-◌, ◌≤◌, length, None, subst, arith}
use Rattle.runs.specs.Handing.{Idles, Passes}
use Rattle.runs.proofs.Onwards.{onward_none, onward_then, onward_behind}
use Rattle.runs.proofs.Passes.{idles_none, idles_more}
use Rattle.runs.proofs.Rests.{refilled, on_rest}
use Rattle.runs.proofs.run.Run.empty.Goals as goal

pub loop-init : goal.loop-init
loop-init g c =
    let mach = g.E.Engine.machine in
    let run = c.args.self.now in
    (onward_none (mach run.engine) run.frame 0, idles_none (mach run.engine) run.frame 0 c.args.out.now)

pub loop-preserved : goal.loop-preserved
loop-preserved g c =
    let mach = g.E.Engine.machine in
    let run = c.args.self.now in
    let l = c.loop in
    let q = c.pass-given in
    let m0 = mach run.engine in
    let m1 = mach l.self.engine in
    let m2 = mach q.new.self.engine in
    let on = onward_then m0 m1 m2 run.frame l.self.frame q.new.self.frame 0 l.given (l.given + q.result) 0 0 l.invariant.0
    (onward_behind m1 m2 l.self.frame q.new.self.frame l.given q.result 0 q.ensures.onward) in
    let few : l.given ≤ length l.out = omega (arith, l.invariant.0.room, c.requires, l.auto.out) in
    let e : l.counter - 1 + 1 ≡ l.counter + 1 - 1 = omega (arith, l.auto.counter) in (
      on,
      subst (λ n. Idles m0 m2 run.frame q.new.self.frame n 0 (l.given + q.result) c.args.out.now (refilled l.out l.given q.new.out)) e
          (idles_more m0 m1 m2 run.frame l.self.frame q.new.self.frame (l.counter - 1) 0 l.given (l.given + q.result) c.args.out.now l.out _
          l.invariant.0.engine on.engine l.invariant.1
          (on_rest (Passes m1 m2 l.self.frame q.new.self.frame None) l.given q.result l.out q.new.out few q.ensures.passed)),
    )

pub returns-clause-emptied : goal.returns-clause-emptied
returns-clause-emptied g c =
    let mach = g.E.Engine.machine in
    let run = c.args.self.now in
    let l = c.loop in
    let e : l.counter - 1 ≡ (mach run.engine).depth - 1 =
    omega (arith, c.loop-test.false, l.auto.counter, l.auto.counter-end, c.depth_of-end.ensures, g.met.E.Engine.places run.engine) in
    subst (λ n. Idles (mach run.engine) (mach l.self.engine) run.frame l.self.frame n 0 l.given c.args.out.now l.out) e l.invariant.1
