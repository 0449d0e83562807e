-- A unit's way through the engine, by family: what goes in for it, in which direction, and what its result meets as it comes out.
use Rattle.std.specs.Prelude.{ℕ, ◌+◌, ◌%◌, ◌^◌, cond, List, [], ◌∷◌, ◌++◌, length, take, drop, Some, None, Option, bit_xor, nat_lt, slice_index}
use Rattle.modes.specs.declared.family.Family.{Family}
use Rattle.modes.specs.declared.family.Family.TheVariants.{Codebook, Chaining, CipherFeedback, OutputFeedback}
use Rattle.modes.specs.declared.way.Way.{Way}
use Rattle.modes.specs.declared.way.Way.TheVariants.{Enciphering, Deciphering}
use Rattle.modes.specs.declared.mode.Mode.{Mode}
use Rattle.modes.specs.Bits.{leftmost, shifted}
use Rattle.modes.specs.Table.{row, distance_of}
use Rattle.modes.specs.Results.{before, register, stream, enciphered}
use Rattle.engines.specs.declared.work.Direction.{Direction}
use Rattle.engines.specs.declared.work.Direction.TheVariants.{Forward, Inverse}
use Rattle.engines.specs.declared.work.Work.{Work}
use Rattle.engines.specs.Machines.{directed}

-- the input block: u is the unit, l what the chain has for it, r the register
abbrev pub input_by : Family → Way → ℕ → ℕ → ℕ → ℕ
input_by Codebook way u l r = u
input_by Chaining Enciphering u l r = bit_xor u l
input_by Chaining Deciphering u l r = u
input_by CipherFeedback way u l r = r
input_by OutputFeedback way u l r = l

-- what the result is joined with as it comes out
abbrev pub mask_by : Family → Way → ℕ → ℕ → ℕ
mask_by Codebook way u l = 0
mask_by Chaining Enciphering u l = 0
mask_by Chaining Deciphering u l = l
mask_by CipherFeedback way u l = u
mask_by OutputFeedback way u l = u

-- the feedback families use the cipher forward only
abbrev pub direction_by : Family → Way → Direction
direction_by Codebook Enciphering = Forward
direction_by Codebook Deciphering = Inverse
direction_by Chaining Enciphering = Forward
direction_by Chaining Deciphering = Inverse
direction_by CipherFeedback way = Forward
direction_by OutputFeedback way = Forward

-- the register after a unit: only cipher feedback has one
abbrev pub register_by : Family → ℕ → ℕ → ℕ
register_by Codebook old new = old
register_by Chaining old new = old
register_by CipherFeedback old new = new
register_by OutputFeedback old new = old

-- what goes back into the chain as a result comes out: y is the block, x the unit handed out
abbrev pub fed_back_by : Family → ℕ → ℕ → ℕ
fed_back_by Codebook y x = x
fed_back_by Chaining y x = x
fed_back_by CipherFeedback y x = x
fed_back_by OutputFeedback y x = y

-- the first n numbers that go into the chain: ciphered units, or output blocks
abbrev pub chained_by : (ℕ → ℕ) → Family → ℕ → Way → List ℕ → List ℕ → ℕ → List ℕ
chained_by F Codebook w way ivs us n = take n us
chained_by F Chaining w Enciphering ivs us n = enciphered F Chaining w ivs us n
chained_by F Chaining w Deciphering ivs us n = take n us
chained_by F CipherFeedback w Enciphering ivs us n = enciphered F CipherFeedback w ivs us n
chained_by F CipherFeedback w Deciphering ivs us n = take n us
chained_by F OutputFeedback w way ivs us n = stream F ivs n

-- how many: one or none
abbrev pub one_if : Option ℕ → ℕ
one_if None = 0
one_if (Some x) = 1

-- ---- over all units us of a run

module _ (F G : ℕ → ℕ) (m : Mode) (way : Way) (ivs us : List ℕ) where
  abbrev pub chained : ℕ → List ℕ
  chained n = chained_by F (row m).family (row m).width way ivs us n

  -- what the chain has for place i
  abbrev pub link : ℕ → ℕ
  link i = before ivs (chained i) i

  -- the register as place i enters
  abbrev pub shift : ℕ → ℕ
  shift i = register (row m).width ivs (chained i) i

  -- the engine's result for place i
  abbrev pub result_at : ℕ → ℕ
  result_at i = directed F G (direction_by (row m).family way) (input_by (row m).family way (slice_index us i) (link i) (shift i))

  abbrev pub mask_at : ℕ → ℕ
  mask_at i = mask_by (row m).family way (slice_index us i) (link i)

  -- the unit that is handed out for place i
  abbrev pub unit_at : ℕ → ℕ
  unit_at i = bit_xor (leftmost (row m).width (result_at i)) (mask_at i)

-- ---- what a run remembers besides its engine, and how it changes

pub record View : Type 0 where
  pub pending : List ℕ
  pub chain : List ℕ
  pub register : ℕ
  pub taken : ℕ
  pub cycles : ℕ

-- without a distance the chain has the link at its front; with one, behind those of the units that are still inside
abbrev pub link_place : Option ℕ → ℕ → ℕ
link_place None waiting = 0
link_place (Some δ) waiting = waiting

-- a chain of the same length, one step on
abbrev pub pushed : List ℕ → ℕ → List ℕ
pushed chain x = drop 1 (chain ++ x ∷ [])

-- without a distance the chain follows the units that enter, with one the results that come out
abbrev pub chain_entered : Option ℕ → List ℕ → ℕ → List ℕ
chain_entered None chain u = pushed chain u
chain_entered (Some δ) chain u = chain

abbrev pub chain_left : Option ℕ → List ℕ → ℕ → List ℕ
chain_left None chain x = chain
chain_left (Some δ) chain x = pushed chain x

module _ (m : Mode) (way : Way) where
  abbrev pub link_of : View → ℕ
  link_of v = slice_index v.chain (link_place (distance_of m way) (length v.pending))

  -- the register for the next unit, where the chain has l for it
  abbrev pub shift_from : View → ℕ → ℕ
  shift_from v l = cond (nat_lt v.taken (row m).values) l (shifted (row m).width v.register l)

  abbrev pub shift_of : View → ℕ
  shift_of v = shift_from v (link_of v)

  -- what goes into the engine for unit u
  abbrev pub work_of : View → ℕ → Work
  work_of v u = record { block = input_by (row m).family way u (link_of v) (shift_of v); direction = direction_by (row m).family way }

  -- unit u has entered
  abbrev pub entered : View → ℕ → View
  entered v u =
      record {
        pending = v.pending ++ mask_by (row m).family way u (link_of v) ∷ [];
        chain = chain_entered (distance_of m way) v.chain u;
        register = register_by (row m).family v.register (shift_of v);
        taken = v.taken + 1;
        cycles = v.cycles;
      }

  -- the unit that block y becomes
  abbrev pub unit_of : View → ℕ → ℕ
  unit_of v y = bit_xor (leftmost (row m).width y) (slice_index v.pending 0)

  -- block y has come out
  abbrev pub left : View → ℕ → View
  left v y =
      record {
        pending = drop 1 v.pending;
        chain = chain_left (distance_of m way) v.chain (fed_back_by (row m).family y (unit_of v y));
        register = v.register;
        taken = v.taken;
        cycles = v.cycles;
      }

-- a cycle is counted
abbrev pub counted : View → View
counted v = record { pending = v.pending; chain = v.chain; register = v.register; taken = v.taken; cycles = (v.cycles + 1) % 2 ^ 64 }
