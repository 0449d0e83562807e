use Rattle.std.proofs.Common.{◌≤◌, length, arith}
use Rattle.runs.specs.Steps.{one_if}
use Rattle.runs.proofs.Rests.{passes_behind}
use Rattle.runs.proofs.run.Run.pass.Goals as goal

pub returns-clause-passed : goal.returns-clause-passed
returns-clause-passed g c =
    let mach = g.E.Engine.machine in
    let run = c.args.self.now in
    let y = c.cycle-unit in
    let room : one_if y.result ≤ length c.args.out.now = omega (arith, y.ensures.most, c.requires.room) in
    passes_behind (mach run.engine) (mach y.new.self.engine) run.frame y.new.self.frame c.args.unit y.result c.put.result c.args.out.now c.put.new.out
    y.ensures.same.0 y.ensures.same.1 room c.put.ensures.count c.put.ensures.after y.ensures.cycled
