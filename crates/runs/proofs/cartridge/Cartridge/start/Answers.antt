use Rattle.std.proofs.Common.{refl, ap, ◌∙◌, arith, rules}
use Rattle.modes.specs.Values.{listed}
use Rattle.runs.specs.Stands.{Fresh}
use Rattle.runs.proofs.Starts.{started_by}
use Rattle.runs.proofs.cartridge.Cartridge.start.Goals as goal

pub returns-clause-started : goal.returns-clause-started
returns-clause-started g c =
    let was = c.args.self.engine in
    let fresh : Fresh _ c.args.order g.W.Heading.heads c.args.self.count =
    record { mode = c.mode.ensures.value; way = c.way_of.ensures; before = refl; taken = refl; inside = c.new.ensures; cycles = refl } in
    started_by (g.E.Engine.machine was) _ c.args.self.count c.args.order g.W.Heading.heads _
    (omega (arith, g.met.E.Engine.places was)) (g.met.E.Engine.shallow was) (search rules) fresh
    (c.first_links.ensures ∙ ap listed c.initial_values.ensures.value)
