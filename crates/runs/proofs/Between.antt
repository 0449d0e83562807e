-- What a sending and a receiving run owe each other, by the theorem over lists of calls.
use Rattle.std.proofs.Common.{true, sym, refl, ap, ◌∙◌, subst, inl}
use Rattle.cipher.specs.Undoing.{Undo}
use Rattle.engines.specs.Machines.{Machine}
use Rattle.modes.specs.Laws.{Ends}
use Rattle.calls.specs.Calls.{Calls}
use Rattle.calls.specs.Runs.{run_of, runs_of, Among}
use Rattle.calls.specs.Theorem.{Pair}
use Rattle.calls.proofs.Counting.{newest_run}
use Rattle.calls.proofs.Whole.{theorem}
use Rattle.runs.specs.declared.frame.Frame.{Frame}
use Rattle.runs.specs.Ends.{OneCipher, Between}

-- ciphers that are one forward are one inverse
ends_of : (mach mach' : Machine) → Undo mach.forward mach.inverse → Undo mach'.forward mach'.inverse → OneCipher mach mach'
    → Ends mach.forward mach.inverse mach'.forward mach'.inverse
ends_of mach mach' undo undo' one =
    record {
      undo = undo;
      forward = one;
      inverse = λ b l.
          let block = undo.inverse_is_block b l in
          ap mach'.inverse (sym (one (mach.inverse b) block ∙ undo.forth b l)) ∙ undo'.back (mach.inverse b) block;
    }

open_among : (calls : Calls true) → Among (run_of calls) (runs_of calls)
open_among calls = subst (Among (run_of calls)) (sym (newest_run calls)) (inl refl)

pub between : (mach mach' : Machine) (f f' : Frame) → Undo mach.forward mach.inverse → Undo mach'.forward mach'.inverse
    → Between mach mach' f f'
between mach mach' f f' undo undo' calls calls' stands stands' sends receives mode one =
    let pair : Pair mach.forward mach.inverse mach'.forward mach'.inverse (run_of calls) (run_of calls') =
    record {
      ends = ends_of mach mach' undo undo' one;
      depth = mach.depth;
      depth' = mach'.depth;
      deep = stands.at_work.sound.deep;
      deep' = stands'.at_work.sound.deep;
      in_run = true;
      in_run' = true;
      calls = calls;
      calls' = calls';
      follows = stands.follows;
      follows' = stands'.follows;
      sends = open_among calls;
      receives = open_among calls';
      enciphers = sends;
      deciphers = receives;
      one_mode = mode;
    } in
    (theorem.restoring _ _ _ _ _ _ pair, theorem.recovery _ _ _ _ _ _ pair, theorem.damage _ _ _ _ _ _ pair)
