use Rattle.std.proofs.Common.{ap, ◌∙◌}
use Rattle.engines.specs.Cycles.{emptied}
use Rattle.modes.specs.declared.way.Way.TheVariants.{Enciphering, Deciphering}
use Rattle.calls.specs.Calls.{new}
use Rattle.jobs.proofs.Checked.{with_room}
use Rattle.jobs.proofs.Told.{on_new_cartridge}
use Rattle.jobs.proofs.running.run_on.Goals as goal

pub returns-in-Enciphering : goal.returns-in-Enciphering
returns-in-Enciphering g c =
    let machine = g.E.Engine.machine in
    let run = c.start.result in
    let empty = c.start.ensures.engine ∙ ap (λ x. emptied (machine x)) c.new-cartridge.ensures.engine in
    let p = on_new_cartridge (machine c.args.engine) (machine run.engine) run.frame c.args.passage.order Enciphering c.args.passage.«data».now
    c.args.out.now c.carry_out.new.out c.carry_out.result empty
    (c.start.ensures.started new c.new-cartridge.ensures.rests) (with_room _ _ _ c.args.passage.checked c.requires) c.carry_out.ensures in
    rw c.in-Enciphering.is (record { answer = p.0; output = p.1 })

pub returns-in-Deciphering : goal.returns-in-Deciphering
returns-in-Deciphering g c =
    let machine = g.E.Engine.machine in
    let run = c.start-in-Deciphering.result in
    let empty = c.start-in-Deciphering.ensures.engine ∙ ap (λ x. emptied (machine x)) c.new-cartridge.ensures.engine in
    let p = on_new_cartridge (machine c.args.engine) (machine run.engine) run.frame c.args.passage.order Deciphering c.args.passage.«data».now
    c.args.out.now c.carry_out-in-Deciphering.new.out c.carry_out-in-Deciphering.result empty
    (c.start-in-Deciphering.ensures.started new c.new-cartridge.ensures.rests) (with_room _ _ _ c.args.passage.checked c.requires) c.carry_out-in-Deciphering.ensures in
    rw c.in-Deciphering.is (record { answer = p.0; output = p.1 })
