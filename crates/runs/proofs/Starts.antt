-- The start of a run.
use Rattle.std.proofs.Common.{◌≡◌, ℕ, zero, suc, ◌+◌, ◌-◌, ◌≤◌, List, [], ◌∷◌, ◌++◌, map, drop, replicate, Some, None, Option, sym, refl, ap, ◌∙◌, subst, arith}
use Rattle.std.specs.List.{range_with_len}
use Rattle.std.proofs.lemmas.List.{append-nil, nil_from_length}
use Rattle.engines.specs.Machines.{Machine}
use Rattle.engines.specs.Cycles.{emptied}
use Rattle.engines.specs.Depths.{the_greatest_depth}
use Rattle.modes.specs.declared.family.Family.{Family}
use Rattle.modes.specs.declared.family.Family.TheVariants.{Codebook, Chaining, CipherFeedback, OutputFeedback}
use Rattle.modes.specs.declared.order.Order.{Order}
use Rattle.modes.specs.declared.way.Way.{Way}
use Rattle.modes.specs.Table.{row, distance_of}
use Rattle.modes.specs.Values.{listed}
use Rattle.modes.proofs.Openings.{suits_begins}
use Rattle.calls.specs.Calls.{started}
use Rattle.runs.specs.declared.frame.Frame.{Frame}
use Rattle.runs.specs.Steps.{chained_by, chained, result_at}
use Rattle.runs.specs.Standing.{blocks, slot, Registered, chain_end}
use Rattle.runs.specs.Stands.{Fresh, Started, Stands}
use Rattle.runs.proofs.Chains.{length_chained}

slots_none : (D : ℕ) (δ : Option ℕ) (y : ℕ → ℕ) (a n : ℕ) → replicate n None ≡ map (slot D δ y 0) (range_with_len a n)
slots_none D δ y a zero = refl
slots_none D δ y a (suc n) = ap (λ places. None ∷ places) (slots_none D δ y (a + 1) n)

chained_none : (F : ℕ → ℕ) (f : Family) (w : ℕ) (way : Way) (ivs us : List ℕ) → chained_by F f w way ivs us 0 ≡ []
chained_none F f w way ivs us = nil_from_length _ (length_chained F w ivs us f way 0 (omega arith))

registered_none : (f : Family) (R : ℕ → ℕ) (r : ℕ) → Registered f R 0 r
registered_none Codebook R r = tt
registered_none Chaining R r = tt
registered_none CipherFeedback R r = λ l. absurd (omega arith)
registered_none OutputFeedback R r = tt

blocks_free : (n : ℕ) → blocks (replicate n None) ≡ 0
blocks_free zero = refl
blocks_free (suc n) = blocks_free n

chain_end_none : (δ : Option ℕ) → chain_end δ 0 0 ≡ 0
chain_end_none None = refl
chain_end_none (Some δ) = refl

pub started_by : (mach mach' : Machine) (count : ℕ) (order : Order) (way : Way) (f : Frame) → 1 ≤ mach.depth → mach.depth ≤ the_greatest_depth
    → mach' ≡ emptied mach → Fresh f order way count → f.chain.items ≡ listed order.values → Started mach mach' count order way f
started_by mach mach' count order way f deep shallow cleared fresh chain = λ calls rests.
    let m = order.mode in
    let ivs = listed order.values in
    let F = mach.forward in
    let G = mach.inverse in
    subst (λ x. Stands x f (started order way calls)) (sym cleared)
    (record {
      follows = rests.follows;
      at_work = record {
        sound = record { deep = deep; shallow = shallow; begins = suits_begins m order.values order.suited };
        mode = fresh.mode;
        way = fresh.way;
        before = fresh.before ∙ rests.tells;
        standing = record {
          taken = fresh.taken;
          within = omega arith;
          some = omega arith;
          gone = λ j l. absurd (omega arith);
          here = λ l. absurd (omega arith);
          due = λ j l. absurd (omega arith);
          line = slots_none mach.depth (distance_of m way) (result_at F G m way ivs []) 0 (mach.depth - 1);
          full = blocks_free (mach.depth - 1);
          masks = fresh.inside;
          links = chain ∙ sym (ap (λ k. drop k (ivs ++ chained F G m way ivs [] k)) (chain_end_none (distance_of m way))
              ∙ ap (λ c. ivs ++ c) (chained_none F (row m).family (row m).width way ivs []) ∙ append-nil ivs);
          registered = registered_none (row m).family _ f.register;
          clocked = fresh.cycles;
        };
      };
    })
