-- One cycle in two halves: a unit or none joins the row, then the row moves and a result or none comes out.
use Rattle.std.proofs.Common.{◌≡◌, ℕ, zero, suc, ◌+◌, ◌-◌, ◌%◌, ◌^◌, ◌<◌, ◌≤◌, eqb, List, [], ◌∷◌, ◌++◌, map, length, get_or, drop, Some, None, Option, sym, refl, ap, ◌∙◌, subst, ⊎_elim, add-one, arith}
use native.Mathlib.Nat.{mod-add-mod}
use lib.Bits.{bit_xor}
use Rattle.std.specs.List.{range_with_len}
use Rattle.std.proofs.lemmas.List.{get_or-drop, length-append, length-drop}
use Rattle.std.proofs.lemmas.List.FromFn.{map-range_with_len_more, length-map-range_with_len}
use Rattle.std.proofs.lemmas.Bool.{cases_lt, cases_eq, ne_eqb, lt-ltb, cond-true, cond-false}
use Rattle.engines.specs.Machines.{Machine, directed}
use Rattle.modes.specs.declared.family.Family.{Family}
use Rattle.modes.specs.declared.family.Family.TheVariants.{Codebook, Chaining, CipherFeedback, OutputFeedback}
use Rattle.modes.specs.declared.mode.Mode.{Mode}
use Rattle.modes.specs.declared.way.Way.{Way}
use Rattle.modes.specs.declared.way.Way.TheVariants.{Enciphering, Deciphering}
use Rattle.modes.specs.Bits.{leftmost}
use Rattle.modes.specs.Results.{before, register}
use Rattle.modes.specs.Schedule.{entry, leaving}
use Rattle.modes.specs.Table.{row, distance_of}
use Rattle.modes.proofs.Fits.{Fit, fit, values_within}
use Rattle.modes.proofs.Registers.{before_same, register_same}
use Rattle.runs.specs.Steps.{input_by, register_by, fed_back_by, chained, link, shift, result_at, mask_at, unit_at, View, link_place, chain_entered, chain_left, link_of, shift_of, work_of, entered, unit_of, left, counted}
use Rattle.runs.specs.Views.{Released}
use Rattle.runs.specs.Standing.{blocks, slot, Registered, chain_end, Sound, Standing, Outcome, Enters}
use Rattle.runs.proofs.Chains.{distance_is, length_chained, chained_agree, chained_enters, chained_leaves, chain_moves}
use Rattle.runs.proofs.Slots.{entry_order, slot_none, slot_some, map_same, blocks_none, blocks_some, blocks_stay, blocks_go}

-- how a run stands between the halves: at the end of the engine's places is what came in this cycle
pub record Joined (mach : Machine) (m : Mode) (way : Way) (ivs us : List ℕ) (base s h t past : ℕ) (places : List (Option ℕ)) (v : View) : Type 0 where
  pub taken : v.taken ≡ base + s
  pub within : base + s ≤ length us
  pub some : h ≤ s
  pub gone : (j : ℕ) → j < h → leaving mach.depth (distance_of m way) j < t
  pub here : h < s → t ≤ leaving mach.depth (distance_of m way) h
  pub due : (j : ℕ) → j < s → entry mach.depth (distance_of m way) j ≤ t
  pub line : places ≡ map (slot mach.depth (distance_of m way) (λ j. result_at mach.forward mach.inverse m way ivs us (base + j)) s) (range_with_len t mach.depth)
  pub full : blocks places ≡ s - h
  pub masks : v.pending ≡ map (mask_at mach.forward mach.inverse m way ivs us) (range_with_len (base + h) (s - h))
  pub links : v.chain ≡ drop (chain_end (distance_of m way) (base + s) (base + h))
      (ivs ++ chained mach.forward mach.inverse m way ivs us (chain_end (distance_of m way) (base + s) (base + h)))
  pub registered : Registered (row m).family (shift mach.forward mach.inverse m way ivs us) (base + s) v.register
  pub clocked : v.cycles ≡ (past + t) % 2 ^ 64

-- what a machine becomes as its places move up
abbrev pub moved_on : Machine → List (Option ℕ) → Machine
moved_on mach places = record { forward = mach.forward; inverse = mach.inverse; depth = mach.depth; row = drop 1 places }

-- the register counts in cipher feedback only

input_same : (f : Family) (way : Way) (u l l' r r' : ℕ) → l ≡ l' → (f ≡ CipherFeedback → r ≡ r') → input_by f way u l r ≡ input_by f way u l' r'
input_same Codebook way u l l' r r' el er = refl
input_same Chaining Enciphering u l l' r r' el er = ap (bit_xor u) el
input_same Chaining Deciphering u l l' r r' el er = refl
input_same CipherFeedback way u l l' r r' el er = er refl
input_same OutputFeedback way u l l' r r' el er = el

registered_next : (f : Family) (R : ℕ → ℕ) (n next old new : ℕ) → next ≡ n + 1 → (f ≡ CipherFeedback → new ≡ R n) → Registered f R next (register_by f old new)
registered_next Codebook R n next old new en e = tt
registered_next Chaining R n next old new en e = tt
registered_next CipherFeedback R n next old new en e = λ _. e refl ∙ ap R (omega arith)
registered_next OutputFeedback R n next old new en e = tt

module _ (mach : Machine) (m : Mode) (way : Way) (ivs us : List ℕ) (ok : Sound mach m ivs) where
  abbrev D : ℕ
  D = mach.depth

  abbrev δ : Option ℕ
  δ = distance_of m way

  abbrev y : ℕ → ℕ
  y i = result_at mach.forward mach.inverse m way ivs us i

  abbrev mask : ℕ → ℕ
  mask i = mask_at mach.forward mach.inverse m way ivs us i

  abbrev unit : ℕ → ℕ
  unit i = unit_at mach.forward mach.inverse m way ivs us i

  abbrev L : ℕ → ℕ
  L i = link mach.forward mach.inverse m way ivs us i

  abbrev R : ℕ → ℕ
  R i = shift mach.forward mach.inverse m way ivs us i

  abbrev C : ℕ → List ℕ
  C n = chained mach.forward mach.inverse m way ivs us n

  agree : (a b k : ℕ) → k < a → k < b → get_or (C a) k 0 ≡ get_or (C b) k 0
  agree = chained_agree mach.forward (row m).width ivs us (row m).family way

  -- the chain, where a units have entered and b are out
  abbrev chain_at : Option ℕ → ℕ → ℕ → List ℕ
  chain_at d a b = drop (chain_end d a b) (ivs ++ C (chain_end d a b))

  pub chain_size : (d : Option ℕ) (a b : ℕ) → a ≤ length us → b ≤ length us → length (chain_at d a b) ≡ (row m).values
  chain_size d a b la lb = size (chain_end d a b) (most d)
    where
      most : (d : Option ℕ) → chain_end d a b ≤ length us
      most None = la
      most (Some x) = lb

      size : (n : ℕ) → n ≤ length us → length (drop n (ivs ++ C n)) ≡ (row m).values
      size n l =
          length-drop n (ivs ++ C n)
          ∙ omega (arith, length-append ivs (C n), length_chained mach.forward (row m).width ivs us (row m).family way n l, ok.begins.count)

  -- ---- what comes in joins the row

  module _ (base s h t past : ℕ) (v : View) (st : Standing mach m way ivs us base s h t past v) where
    pub pending_size : length v.pending ≡ s - h
    pending_size = ap length st.masks ∙ length-map-range_with_len mask (base + h) (s - h)

    -- fewer are inside than the engine is deep
    pub few_inside : s - h < D
    few_inside =
        let deep = ok.deep in
        ⊎_elim
        (λ l. omega (arith, st.due (s - 1) (omega arith), st.here l, entry_order D δ h (s - 1) (omega arith)))
        (λ l. omega arith)
        (cases_lt h s)

    pub links_size : length v.chain ≡ (row m).values
    links_size =
        let within = st.within in
        let some = st.some in
        ap length st.links ∙ chain_size δ (base + s) (base + h) within (omega arith)

    -- the slots of the next D - 1 cycles and one more
    line_more : (f : ℕ → Option ℕ) (x : Option ℕ) → mach.row ≡ map f (range_with_len t (D - 1)) → f (t + (D - 1)) ≡ x → mach.row ++ x ∷ [] ≡ map f (range_with_len t D)
    line_more f x line last =
        let deep = ok.deep in
        let e : D - 1 + 1 ≡ D = omega arith in
        let more = map-range_with_len_more f t (D - 1) (t + (D - 1)) refl in
        cc (line, last, more, e)

    -- nothing comes in
    pub joined_none : Joined mach m way ivs us base s h t past (mach.row ++ None ∷ []) v
    joined_none =
        record {
          taken = st.taken;
          within = st.within;
          some = st.some;
          gone = st.gone;
          here = st.here;
          due = λ j l. omega (arith, st.due j l);
          line = line_more _ None st.line (slot_none D δ (λ j. y (base + j)) s (t + (D - 1)) (λ j l q. omega (arith, st.due j l)));
          full = blocks_none mach.row ∙ st.full;
          masks = st.masks;
          links = st.links;
          registered = st.registered;
          clocked = st.clocked;
        }

    -- a unit comes in, in its cycle
    module _ (u : ℕ) (en : Enters mach m way us base s h t u) where
      -- the chain has what it asks for
      link_is : link_of m way v ≡ L (base + s)
      link_is = let here = at δ refl in cc (pending_size, st.links, here)
        where
          at : (d : Option ℕ) → δ ≡ d → get_or (chain_at d (base + s) (base + h)) (link_place d (s - h)) 0 ≡ L (base + s)
          at None e = get_or-drop (base + s) (ivs ++ C (base + s)) 0 0 ∙ ap (λ k. get_or (ivs ++ C (base + s)) k 0) (omega arith)
          at (Some d) e =
              let waits = en.partner d e in
              let some = st.some in
              let count : length ivs ≡ d = ok.begins.count ∙ sym (distance_is (row m).family way (row m).values d e) in
              get_or-drop (base + h) (ivs ++ C (base + h)) (s - h) 0 ∙ ap (λ k. before ivs (C (base + h)) k) (omega arith)
              ∙ before_same ivs (C (base + h)) (C (base + s)) (base + s) (λ j q. agree (base + h) (base + s) j (omega arith) (omega arith))

      -- in cipher feedback the register is the one that it asks for
      module _ (feedback : (row m).family ≡ CipherFeedback) where
        some_value : 0 < (row m).values
        some_value = (subst (λ f. Fit f (row m).width (row m).values) feedback (fit m)).1

        register_before : 0 < base + s → v.register ≡ R (base + s - 1)
        register_before = subst (λ f. Registered f R (base + s) v.register) feedback st.registered

        shift_at : (n : ℕ) → n ≡ base + s → shift_of m way v ≡ R n
        shift_at zero q =
            let lt : v.taken < (row m).values = omega (arith, st.taken, some_value) in
            cond-true _ _ _ (lt-ltb v.taken (row m).values lt) ∙ link_is ∙ ap L (sym q)
        shift_at (suc n) q =
            let w = (row m).width in
            let taken : v.taken ≡ suc n = st.taken ∙ sym q in
            let count = ok.begins.count in
            let linked : link_of m way v ≡ L (suc n) = link_is ∙ ap L (sym q) in
            let positive = some_value in
            let kept : v.register ≡ R n = register_before (omega arith) ∙ ap R (omega arith) in
            let longer : R n ≡ register w ivs (C (suc n)) n = register_same w ivs (C n) (C (suc n)) n (λ j l. agree n (suc n) j (omega arith) (omega arith)) in
            cc (taken, count, linked, kept, longer)

      shift_is : (row m).family ≡ CipherFeedback → shift_of m way v ≡ R (base + s)
      shift_is feedback = shift_at feedback (base + s) refl

      pub result_is : directed mach.forward mach.inverse (work_of m way v u).direction (work_of m way v u).block ≡ y (base + s)
      result_is =
          let input = input_same (row m).family way (get_or us (base + s) 0) _ _ _ _ link_is shift_is in
          cc (en.unit, input)

      line_joined : mach.row ++ Some (y (base + s)) ∷ [] ≡ map (slot D δ (λ j. y (base + j)) (s + 1)) (range_with_len t D)
      line_joined =
          let deep = ok.deep in
          let cycle = en.cycle in
          line_more new (Some (y (base + s))) (st.line ∙ map_same old new t (D - 1) same)
          (slot_some D δ (λ j. y (base + j)) (s + 1) s (t + (D - 1)) (omega arith) (omega arith))
        where
          old : ℕ → Option ℕ
          old c = slot D δ (λ j. y (base + j)) s c

          new : ℕ → Option ℕ
          new c = slot D δ (λ j. y (base + j)) (s + 1) c

          same : (c : ℕ) → t ≤ c → c < t + (D - 1) → old c ≡ new c
          same c l r =
              let cycle = en.cycle in
              let not_yet : leaving D δ s ≡ c → ⊥ = λ z. omega arith in
              sym (ap (λ k. slot D δ (λ j. y (base + j)) k c) (add-one s) ∙ cond-false (eqb (leaving D δ s) c) _ _ (ne_eqb _ _ not_yet))

      masks_entered : (entered m way v u).pending ≡ map mask (range_with_len (base + h) (s + 1 - h))
      masks_entered =
          let some = st.some in
          let more = map-range_with_len_more mask (base + h) (s - h) (base + s) (omega arith) in
          let longer : s + 1 - h ≡ s - h + 1 = omega arith in
          cc (en.unit, link_is, st.masks, more, longer)

      links_entered : (entered m way v u).chain ≡ chain_at δ (base + (s + 1)) (base + h)
      links_entered = let here = at δ refl in cc (st.links, here)
        where
          at : (d : Option ℕ) → δ ≡ d → chain_entered d (chain_at d (base + s) (base + h)) u ≡ chain_at d (base + (s + 1)) (base + h)
          at None e =
              let next = en.next in
              chain_moves mach.forward (row m).width ivs us (row m).family way (base + s) u (omega arith)
              (chained_enters mach.forward (row m).width ivs us (row m).family way (row m).values (base + s) e next
              ∙ ap (λ k. C (base + s) ++ k ∷ []) (sym en.unit))
              ∙ ap (λ k. drop k (ivs ++ C k)) (omega arith)
          at (Some d) e = refl

      here_entered : h < s + 1 → t ≤ leaving D δ h
      here_entered l = ⊎_elim st.here (λ (q : s ≤ h). let e : h ≡ s = omega (arith, st.some) in rw e (omega (arith, en.cycle))) (cases_lt h s)

      due_entered : (j : ℕ) → j < s + 1 → entry D δ j ≤ t
      due_entered j l = ⊎_elim (λ q. omega (arith, st.due j q)) (λ (q : s ≤ j). let e : j ≡ s = omega arith in rw e (omega (arith, en.cycle))) (cases_lt j s)

      pub joined_unit : Joined mach m way ivs us base (s + 1) h t past (mach.row ++ Some (y (base + s)) ∷ []) (entered m way v u)
      joined_unit =
          let some = st.some in
          record {
            taken = omega (arith, st.taken);
            within = omega (arith, en.next);
            some = omega arith;
            gone = st.gone;
            here = here_entered;
            due = due_entered;
            line = line_joined;
            full = blocks_some mach.row (y (base + s)) ∙ omega (arith, st.full);
            masks = masks_entered;
            links = links_entered;
            registered = registered_next (row m).family R (base + s) (base + (s + 1)) v.register (shift_of m way v) (omega arith) shift_is;
            clocked = st.clocked;
          }

  -- ---- the row moves, and what stands at its front comes out

  module _ (base s h t past : ℕ) (places : List (Option ℕ)) (v : View) (jn : Joined mach m way ivs us base s h t past places v) where
    clocked_next : (v.cycles + 1) % 2 ^ 64 ≡ (past + (t + 1)) % 2 ^ 64
    clocked_next = ap (λ c. (c + 1) % 2 ^ 64) jn.clocked ∙ mod-add-mod (past + t) (2 ^ 64) 1 ∙ ap (λ k. k % 2 ^ 64) (omega arith)

    line_split : places ≡ map (slot D δ (λ j. y (base + j)) s) (range_with_len t (suc (D - 1)))
    line_split =
        let deep = ok.deep in
        let e : D ≡ suc (D - 1) = omega arith in
        jn.line ∙ ap (λ k. map (slot D δ (λ j. y (base + j)) s) (range_with_len t k)) e

    front_is : get_or places 0 None ≡ slot D δ (λ j. y (base + j)) s t
    front_is = ap (λ r. get_or r 0 None) line_split

    -- the oldest unit inside, if there is one, is not due
    module _ (not-due : h < s → leaving D δ h ≡ t → ⊥) where
      none_due : (j : ℕ) → j < s → leaving D δ j ≡ t → ⊥
      none_due j l e = ⊎_elim (λ q. omega (arith, jn.gone j q)) (λ (q : h ≤ j). ⊎_elim (later q) (λ (r : j ≤ h). same (omega arith)) (cases_lt h j)) (cases_lt j h)
        where
          later : h ≤ j → h < j → ⊥
          later q r = omega (arith, jn.here (omega arith), entry_order D δ h j q)

          same : h ≡ j → ⊥
          same q = not-due (omega arith) (ap (leaving D δ) q ∙ e)

      front_empty : get_or places 0 None ≡ None
      front_empty = front_is ∙ slot_none D δ (λ j. y (base + j)) s t none_due

      standing_still : Standing (moved_on mach places) m way ivs us base s h (t + 1) past (counted v)
      standing_still =
          record {
            taken = jn.taken;
            within = jn.within;
            some = jn.some;
            gone = λ j l. omega (arith, jn.gone j l);
            here = λ l. let ne : leaving D δ h ≡ t → ⊥ = not-due l in omega (arith, jn.here l);
            due = λ j l. omega (arith, jn.due j l);
            line = ap (drop 1) line_split;
            full = blocks_stay places front_empty ∙ jn.full;
            masks = jn.masks;
            links = jn.links;
            registered = jn.registered;
            clocked = clocked_next;
          }

      none_released : (v' : View) (answer r : Option ℕ) → answer ≡ get_or places 0 None → Released m way (counted v) v' answer r
          → Outcome (moved_on mach places) m way ivs us base s h t past v' r
      none_released v' answer r ea rel =
          let none : Released m way (counted v) v' None r = subst (λ a. Released m way (counted v) v' a r) (ea ∙ front_empty) rel in
          rw (none.0, none.1) standing_still

    -- the oldest unit inside is due
    module _ (some : h < s) (now : leaving D δ h ≡ t) where
      front_full : get_or places 0 None ≡ Some (y (base + h))
      front_full = front_is ∙ slot_some D δ (λ j. y (base + j)) s h t some now

      masks_split : v.pending ≡ mask (base + h) ∷ map mask (range_with_len (base + (h + 1)) (s - (h + 1)))
      masks_split =
          let e : s - h ≡ suc (s - (h + 1)) = omega arith in
          let next : base + h + 1 ≡ base + (h + 1) = omega arith in
          cc (jn.masks, e, next)

      unit_is : unit_of m way v (y (base + h)) ≡ unit (base + h)
      unit_is = ap (λ p. bit_xor (leftmost (row m).width (y (base + h))) (get_or p 0 0)) masks_split

      links_left : (left m way v (y (base + h))).chain ≡ chain_at δ (base + s) (base + (h + 1))
      links_left = let here = at δ refl in cc (jn.links, unit_is, here)
        where
          at : (d : Option ℕ) → δ ≡ d
              → chain_left d (chain_at d (base + s) (base + h)) (fed_back_by (row m).family (y (base + h)) (unit (base + h))) ≡ chain_at d (base + s) (base + (h + 1))
          at None e = refl
          at (Some d) e =
              let within = jn.within in
              chain_moves mach.forward (row m).width ivs us (row m).family way (base + h) _ (omega arith)
              (chained_leaves mach.forward (row m).width ivs us mach.inverse (row m).family way (row m).values d (base + h) (fit m) e)
              ∙ ap (λ k. drop k (ivs ++ C k)) (omega arith)

      gone_left : (j : ℕ) → j < h + 1 → leaving D δ j < t + 1
      gone_left j l = ⊎_elim (λ q. omega (arith, jn.gone j q)) (λ (q : h ≤ j). let e : j ≡ h = omega arith in rw e (omega arith)) (cases_lt j h)

      standing_left : Standing (moved_on mach places) m way ivs us base s (h + 1) (t + 1) past (counted (left m way v (y (base + h))))
      standing_left =
          record {
            taken = jn.taken;
            within = jn.within;
            some = omega arith;
            gone = gone_left;
            here = λ l. omega (arith, entry_order D δ h (h + 1) (omega arith));
            due = λ j l. omega (arith, jn.due j l);
            line = ap (drop 1) line_split;
            full = omega (arith, blocks_go places (y (base + h)) front_full, jn.full);
            masks = ap (drop 1) masks_split;
            links = links_left;
            registered = jn.registered;
            clocked = clocked_next;
          }

      unit_released : (v' : View) (answer r : Option ℕ) → answer ≡ get_or places 0 None → Released m way (counted v) v' answer r
          → Outcome (moved_on mach places) m way ivs us base s h t past v' r
      unit_released v' answer r ea rel =
          let within = jn.within in
          let waiting = ap length masks_split in
          let long = ap length jn.links ∙ chain_size δ (base + s) (base + h) within (omega arith) in
          let few = values_within m in
          let one : Released m way (counted v) v' (Some (y (base + h))) r = subst (λ a. Released m way (counted v) v' a r) (ea ∙ front_full) rel in
          let out = one (omega arith) (omega arith) in
          rw (out.0, out.1) (some, unit_is, standing_left)

    pub released : (v' : View) (answer r : Option ℕ) → answer ≡ get_or places 0 None → Released m way (counted v) v' answer r
        → Outcome (moved_on mach places) m way ivs us base s h t past v' r
    released v' answer r ea rel = ⊎_elim inside (λ l. none_released (λ q. absurd (omega arith)) v' answer r ea rel) (cases_lt h s)
      where
        inside : h < s → Outcome (moved_on mach places) m way ivs us base s h t past v' r
        inside l =
            ⊎_elim (λ now. unit_released l now v' answer r ea rel) (λ ne. none_released (λ _. ne) v' answer r ea rel) (cases_eq (leaving D δ h) t)
