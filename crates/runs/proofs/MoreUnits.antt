-- What a run has done stays as it was while more units come.
use Rattle.std.proofs.Common.{◌≡◌, ℕ, ◌+◌, ◌-◌, ◌<◌, ◌≤◌, List, ◌++◌, length, get_or, drop, Some, None, Option, sym, refl, ap, ◌∙◌, arith}
use Rattle.std.proofs.lemmas.List.{get_or_append_left, length-append, take-append-le}
use Rattle.engines.specs.Machines.{Machine}
use Rattle.modes.specs.declared.family.Family.{Family}
use Rattle.modes.specs.declared.family.Family.TheVariants.{Codebook, Chaining, CipherFeedback, OutputFeedback}
use Rattle.modes.specs.declared.mode.Mode.{Mode}
use Rattle.modes.specs.declared.way.Way.{Way}
use Rattle.modes.specs.declared.way.Way.TheVariants.{Enciphering, Deciphering}
use Rattle.modes.specs.Results.{before, register, ciphered, enciphered}
use Rattle.modes.specs.Table.{row, distance_of}
use Rattle.modes.proofs.Grown.{grown_same}
use Rattle.runs.specs.Steps.{chained_by, chained, link, shift, result_at, mask_at, View}
use Rattle.runs.specs.Standing.{Registered, chain_end, Standing}
use Rattle.runs.proofs.Slots.{slot_same, map_same}

enciphered_more : (F : ℕ → ℕ) (f : Family) (w : ℕ) (ivs us more : List ℕ) (n : ℕ) → n ≤ length us → enciphered F f w ivs us n ≡ enciphered F f w ivs (us ++ more) n
enciphered_more F f w ivs us more n h =
    grown_same _ _ n (λ i l. ap (ciphered F f w ivs (enciphered F f w ivs us i) i) (sym (get_or_append_left us more 0 i (omega arith))))

chained_more : (F : ℕ → ℕ) (f : Family) (w : ℕ) (way : Way) (ivs us more : List ℕ) (n : ℕ) → n ≤ length us
    → chained_by F f w way ivs us n ≡ chained_by F f w way ivs (us ++ more) n
chained_more F Codebook w way ivs us more n h = sym (take-append-le n us more h)
chained_more F Chaining w Enciphering ivs us more n h = enciphered_more F Chaining w ivs us more n h
chained_more F Chaining w Deciphering ivs us more n h = sym (take-append-le n us more h)
chained_more F CipherFeedback w Enciphering ivs us more n h = enciphered_more F CipherFeedback w ivs us more n h
chained_more F CipherFeedback w Deciphering ivs us more n h = sym (take-append-le n us more h)
chained_more F OutputFeedback w way ivs us more n h = refl

module _ (F G : ℕ → ℕ) (m : Mode) (way : Way) (ivs us more : List ℕ) where
  chain_more : (n : ℕ) → n ≤ length us → chained F G m way ivs us n ≡ chained F G m way ivs (us ++ more) n
  chain_more n h = chained_more F (row m).family (row m).width way ivs us more n h

  unit_more : (i : ℕ) → i < length us → get_or us i 0 ≡ get_or (us ++ more) i 0
  unit_more i h = sym (get_or_append_left us more 0 i h)

  shift_more : (i : ℕ) → i < length us → shift F G m way ivs us i ≡ shift F G m way ivs (us ++ more) i
  shift_more i h = ap (λ c. register (row m).width ivs c i) (chain_more i (omega arith))

  link_more : (i : ℕ) → i < length us → link F G m way ivs us i ≡ link F G m way ivs (us ++ more) i
  link_more i h = ap (λ c. before ivs c i) (chain_more i (omega arith))

  result_more : (i : ℕ) → i < length us → result_at F G m way ivs us i ≡ result_at F G m way ivs (us ++ more) i
  result_more i h = cc (unit_more i h, link_more i h, shift_more i h)

  mask_more : (i : ℕ) → i < length us → mask_at F G m way ivs us i ≡ mask_at F G m way ivs (us ++ more) i
  mask_more i h = cc (unit_more i h, link_more i h)

  registered_more : (f : Family) (n r : ℕ) → n ≤ length us → Registered f (shift F G m way ivs us) n r → Registered f (shift F G m way ivs (us ++ more)) n r
  registered_more Codebook n r h k = tt
  registered_more Chaining n r h k = tt
  registered_more CipherFeedback n r h k = λ pos. k pos ∙ shift_more (n - 1) (omega arith)
  registered_more OutputFeedback n r h k = tt

chain_end_most : (δ : Option ℕ) (a b n : ℕ) → a ≤ n → b ≤ n → chain_end δ a b ≤ n
chain_end_most None a b n p q = p
chain_end_most (Some δ) a b n p q = q

pub standing_more : (mach : Machine) (m : Mode) (way : Way) (ivs us more : List ℕ) (base s h t past : ℕ) (v : View)
    → Standing mach m way ivs us base s h t past v → Standing mach m way ivs (us ++ more) base s h t past v
standing_more mach m way ivs us more base s h t past v st =
    let F = mach.forward in
    let G = mach.inverse in
    let within = st.within in
    let some = st.some in
    let x = chain_end (distance_of m way) (base + s) (base + h) in
    let len = length-append us more in
    record {
      taken = st.taken;
      within = omega arith;
      some = st.some;
      gone = st.gone;
      here = st.here;
      due = st.due;
      line = st.line ∙ map_same _ _ t (mach.depth - 1)
          (λ c _ _. slot_same mach.depth (distance_of m way) _ _ s c (λ j l. result_more F G m way ivs us more (base + j) (omega arith)));
      full = st.full;
      masks = st.masks ∙ map_same _ _ (base + h) (s - h) (λ k a b. mask_more F G m way ivs us more k (omega arith));
      links = st.links ∙ ap (λ c. drop x (ivs ++ c)) (chain_more F G m way ivs us more x (chain_end_most (distance_of m way) (base + s) (base + h) (length us) (omega arith) (omega arith)));
      registered = registered_more F G m way ivs us more (row m).family (base + s) v.register within st.registered;
      clocked = st.clocked;
    }
