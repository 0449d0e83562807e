-- The line of three functional blocks over three ciphers.
use Rattle.std.specs.Prelude.{ℕ, List, [], ◌∷◌, Some, None, Option, slice_set}
use Rattle.cipher.specs.declared.Cipher.{Ghosts as Functions}
use Rattle.cipher.specs.Triples.{in_row}
use Rattle.engines.specs.declared.work.Direction.{Direction}
use Rattle.engines.specs.declared.work.Direction.TheVariants.{Forward, Inverse}
use Rattle.engines.specs.declared.work.Work.{Work}
use Rattle.engines.specs.declared.table.Stage.{Stage}
use Rattle.engines.specs.declared.table.Stage.TheVariants.{First, Second, Third}
use Rattle.engines.specs.declared.table.BlockState.{BlockState}
use Rattle.engines.specs.declared.line.Line.{Line}
use Rattle.engines.specs.Machines.{Machine, result}
use Rattle.engines.specs.Tables.{held, holding, place, state}

-- the function of each functional block in each direction
abbrev pub stage_function : {A B C : Type 0} → Functions A → Functions B → Functions C → Line A B C → Stage → Direction → ℕ → ℕ
stage_function a b c l First Forward = a.forward l.first
stage_function a b c l Second Forward = b.inverse l.second
stage_function a b c l Third Forward = c.forward l.third
stage_function a b c l First Inverse = c.inverse l.third
stage_function a b c l Second Inverse = b.forward l.second
stage_function a b c l Third Inverse = a.inverse l.first

-- what a functional block makes of what comes in; the direction stays with the block
abbrev pub worked : (Direction → ℕ → ℕ) → Option Work → Option Work
worked f None = None
worked f (Some work) = Some (record { block = f work.direction work.block; direction = work.direction })

abbrev pub with_blocks : {A B C : Type 0} → Line A B C → List BlockState → Line A B C
with_blocks l blocks = record { first = l.first; second = l.second; third = l.third; table = record { blocks = blocks } }

-- the line after the turn of one functional block
abbrev pub turned_at : {A B C : Type 0} → Functions A → Functions B → Functions C → Line A B C → Stage → Option Work → Line A B C
turned_at a b c l stage event =
    with_blocks l (slice_set l.table.blocks (place stage) (holding (worked (stage_function a b c l stage) event)))

-- the line after a cycle: each functional block has worked what the one before it held
abbrev pub advanced : {A B C : Type 0} → Functions A → Functions B → Functions C → Line A B C → Option Work → Line A B C
advanced a b c l input =
    let f = stage_function a b c l in
    let blocks = l.table.blocks in
    with_blocks l
    (holding (worked (f First) input)
    ∷ holding (worked (f Second) (held (state blocks First)))
    ∷ holding (worked (f Third) (held (state blocks Second)))
    ∷ [])

-- the line means the triple; in its row stands what the second functional block holds, the third's work still due,
-- and then what the first holds, the second's and the third's still due
abbrev pub line_machine : {A B C : Type 0} → Functions A → Functions B → Functions C → Line A B C → Machine
line_machine a b c l =
    let f = stage_function a b c l in
    let blocks = l.table.blocks in
    record {
      forward = in_row (a.forward l.first) (b.inverse l.second) (c.forward l.third);
      inverse = in_row (c.inverse l.third) (b.forward l.second) (a.inverse l.first);
      depth = 3;
      row = result (f Third) (held (state blocks Second)) ∷ result (λ d x. f Third d (f Second d x)) (held (state blocks First)) ∷ [];
    }
