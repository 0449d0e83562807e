use Rattle.std.proofs.Common.{◌+◌, [], length, sym, refl, ap, arith}
use Rattle.modes.specs.Table.{row}
use Rattle.calls.specs.Calls.{gave}
use Rattle.runs.proofs.FeedReplies.{refuses_room, refuses_wide, refuses_many, accepts, feed_refused, feed_taken}
use Rattle.runs.proofs.run.Run.feed.Goals as goal

pub returns-then-out-wanted : goal.returns-then-out-wanted
returns-then-out-wanted g c =
    let run = c.args.self.now in
    let f = run.frame in
    let us = c.args.units.now in
    let xs = c.args.out.now in
    let no = refuses_room (length f.pending.items) (row f.mode).width (f.before + f.taken) us (length xs) (c.len.result + length us)
    (ap (λ n. n + length us) c.len.ensures.value) c.if-out-wanted.true in
    record {
      answered = feed_refused (g.E.Engine.machine run.engine) f us xs _ no;
      refusal = sym (no (gave []));
      within = tt;
      unaltered = (refl, refl);
      idle = λ _. (refl, refl);
      same = ((refl, refl, refl), (refl, refl, refl));
    }

pub returns-in-Some : goal.returns-in-Some
returns-in-Some g c =
    let run = c.args.self.now in
    let f = run.frame in
    let us = c.args.units.now in
    let xs = c.args.out.now in
    let no = refuses_wide (length f.pending.items) (row f.mode).width (f.before + f.taken) us (length xs)
    (omega (arith, c.if-out-wanted.false, c.len.ensures.value)) c.in-Some.index (sym c.in-Some.ensures) in
    record {
      answered = feed_refused (g.E.Engine.machine run.engine) f us xs _ no;
      refusal = sym (no (gave []));
      within = tt;
      unaltered = (refl, refl);
      idle = λ _. (refl, refl);
      same = ((refl, refl, refl), (refl, refl, refl));
    }

pub returns-then-left-units : goal.returns-then-left-units
returns-then-left-units g c =
    let run = c.args.self.now in
    let f = run.frame in
    let us = c.args.units.now in
    let xs = c.args.out.now in
    let within = f.within in
    let no = refuses_many (length f.pending.items) (row f.mode).width (f.before + f.taken) us (length xs)
    (omega (arith, c.if-out-wanted.false, c.len.ensures.value)) (sym c.in_default.ensures) (omega (arith, c.if-left-units.true)) in
    record {
      answered = feed_refused (g.E.Engine.machine run.engine) f us xs _ no;
      refusal = sym (no (gave []));
      within = tt;
      unaltered = (refl, refl);
      idle = λ _. (refl, refl);
      same = ((refl, refl, refl), (refl, refl, refl));
    }

pub returns : goal.returns
returns g c =
    let mach = g.E.Engine.machine in
    let run = c.args.self.now in
    let f = run.frame in
    let us = c.args.units.now in
    let xs = c.args.out.now in
    let p = c.pump in
    let within = f.within in
    let yes = accepts (length f.pending.items) (row f.mode).width (f.before + f.taken) us (length xs)
    (omega (arith, c.if-out-wanted.false, c.len.ensures.value)) (sym c.in_default.ensures) (omega (arith, c.if-left-units.false)) in
    record {
      answered = feed_taken (mach run.engine) (mach p.new.self.engine) f p.new.self.frame us xs p.new.out p.result
          p.ensures.onward.engine yes p.ensures.pumped;
      refusal = sym (yes (gave []));
      within = omega (arith, p.ensures.onward.room, c.if-out-wanted.false, c.len.ensures.value);
      unaltered = tt;
      idle = λ none. let i = p.ensures.idle none in (i.1, i.2);
      same = (p.ensures.onward.engine, p.ensures.onward.kept);
    }
