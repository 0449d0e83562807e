-- How an engine's row and a run's memory stand to the units that the run took.
use Rattle.std.specs.Prelude.{◌≡◌, ℕ, zero, suc, ◌+◌, ◌-◌, ◌%◌, ◌^◌, ◌<◌, ◌≤◌, cond, List, [], ◌∷◌, ◌++◌, map, length, drop, Some, None, Option, ◌==◌, slice_index}
use Rattle.std.specs.List.{range_with_len}
use Rattle.engines.specs.Depths.{the_greatest_depth}
use Rattle.engines.specs.Machines.{Machine}
use Rattle.modes.specs.declared.family.Family.{Family}
use Rattle.modes.specs.declared.family.Family.TheVariants.{Codebook, Chaining, CipherFeedback, OutputFeedback}
use Rattle.modes.specs.declared.mode.Mode.{Mode}
use Rattle.modes.specs.declared.way.Way.{Way}
use Rattle.modes.specs.Schedule.{entry, leaving}
use Rattle.modes.specs.Table.{row, distance_of}
use Rattle.modes.specs.Values.{Begins}
use Rattle.runs.specs.Steps.{chained, shift, result_at, mask_at, unit_at, View}

-- how many blocks a row holds
abbrev pub blocks : List (Option ℕ) → ℕ
blocks [] = 0
blocks (None ∷ places) = blocks places
blocks (Some b ∷ places) = suc (blocks places)

-- what comes out in cycle c of a stretch of s units, whose results are y
abbrev pub slot : ℕ → Option ℕ → (ℕ → ℕ) → ℕ → ℕ → Option ℕ
slot D δ y zero c = None
slot D δ y (suc j) c = cond (leaving D δ j == c) (Some (y j)) (slot D δ y j c)

-- only cipher feedback keeps a register
abbrev pub Registered : Family → (ℕ → ℕ) → ℕ → ℕ → Type 0
Registered Codebook R n r = Unit {0}
Registered Chaining R n r = Unit {0}
Registered CipherFeedback R n r = 0 < n → r ≡ R (n - 1)
Registered OutputFeedback R n r = Unit {0}

-- how far the chain has come: to the units taken where there is no distance, else to those that are out
abbrev pub chain_end : Option ℕ → ℕ → ℕ → ℕ
chain_end None s h = s
chain_end (Some δ) s h = h

-- what an engine and an order have
pub record Sound (mach : Machine) (m : Mode) (ivs : List ℕ) : Type 0 where
  pub deep : 1 ≤ mach.depth
  pub shallow : mach.depth ≤ the_greatest_depth
  pub begins : Begins m ivs

-- the run took the units us: base of them before this stretch, s in it, of which h are out, in t cycles of the stretch; past cycles went before it
pub record Standing (mach : Machine) (m : Mode) (way : Way) (ivs us : List ℕ) (base s h t past : ℕ) (v : View) : Type 0 where
  pub taken : v.taken ≡ base + s
  pub within : base + s ≤ length us
  pub some : h ≤ s
  pub gone : (j : ℕ) → j < h → leaving mach.depth (distance_of m way) j < t
  pub here : h < s → t ≤ leaving mach.depth (distance_of m way) h
  pub due : (j : ℕ) → j < s → entry mach.depth (distance_of m way) j < t
  pub line : mach.row ≡ map (slot mach.depth (distance_of m way) (λ j. result_at mach.forward mach.inverse m way ivs us (base + j)) s) (range_with_len t (mach.depth - 1))
  pub full : blocks mach.row ≡ s - h
  pub masks : v.pending ≡ map (mask_at mach.forward mach.inverse m way ivs us) (range_with_len (base + h) (s - h))
  pub links : v.chain ≡ drop (chain_end (distance_of m way) (base + s) (base + h))
      (ivs ++ chained mach.forward mach.inverse m way ivs us (chain_end (distance_of m way) (base + s) (base + h)))
  pub registered : Registered (row m).family (shift mach.forward mach.inverse m way ivs us) (base + s) v.register
  pub clocked : v.cycles ≡ (past + t) % 2 ^ 64

-- the same machine but for its row
abbrev pub SameEngine : Machine → Machine → Type 0
SameEngine mach mach' = (mach'.forward ≡ mach.forward) × (mach'.inverse ≡ mach.inverse) × (mach'.depth ≡ mach.depth)

-- after one more cycle, in which r was handed out
abbrev pub Outcome : Machine → Mode → Way → (ivs us : List ℕ) (base s h t past : ℕ) → View → Option ℕ → Type 0
Outcome mach m way ivs us base s h t past v None = Standing mach m way ivs us base s h (t + 1) past v
Outcome mach m way ivs us base s h t past v (Some x) =
    (h < s) × (x ≡ unit_at mach.forward mach.inverse m way ivs us (base + h)) × Standing mach m way ivs us base s (h + 1) (t + 1) past v

-- a unit may enter: it is the next, in its cycle, and its partner is out
pub record Enters (mach : Machine) (m : Mode) (way : Way) (us : List ℕ) (base s h t u : ℕ) : Type 0 where
  pub next : base + s < length us
  pub unit : u ≡ slice_index us (base + s)
  pub cycle : entry mach.depth (distance_of m way) s ≡ t
  pub partner : (δ : ℕ) → distance_of m way ≡ Some δ → s - h < δ

-- what one cycle does, with a unit and with none
abbrev pub Cycled : (mach mach' : Machine) → Mode → Way → (v v' : View) → Option ℕ → Option ℕ → Type 0
Cycled mach mach' m way v v' None r =
    (ivs us : List ℕ) (base s h t past : ℕ) → Sound mach m ivs → Standing mach m way ivs us base s h t past v
    → Outcome mach' m way ivs us base s h t past v' r
Cycled mach mach' m way v v' (Some u) r =
    (ivs us : List ℕ) (base s h t past : ℕ) → Sound mach m ivs → Standing mach m way ivs us base s h t past v
    → Enters mach m way us base s h t u → Outcome mach' m way ivs us base (s + 1) h t past v' r
