-- What a receiving run hands out, against what the sending run took.
use Rattle.std.proofs.Common.{◌≡◌, ℕ, ◌-◌, ◌<◌, ◌≤◌, length, get_or, take, sym, ap, ◌∙◌, subst, arith}
use lib.Bits.{bit_xor}
use Rattle.std.proofs.lemmas.List.{get_or-take, length-take}
use Rattle.modes.specs.declared.way.Way.TheVariants.{Enciphering, Deciphering}
use Rattle.modes.specs.Table.{row}
use Rattle.modes.specs.Values.{listed}
use Rattle.modes.specs.Results.{sent, received}
use Rattle.modes.specs.Laws.{Struck, Reached, Damaged}
use Rattle.modes.proofs.Receiving.{length_results, take_results, results_same, restoring, recovery}
use Rattle.modes.proofs.Damages.{damage}
use Rattle.calls.specs.Runs.{Run}
use Rattle.calls.specs.Theorem.{Pair, Agree, Restored, Recovered, Contained}
use Rattle.calls.proofs.EachRun.{Front, front_at, each_run}

module _ (F G F' G' : ℕ → ℕ) (s r : Run) (pair : Pair F G F' G' s r) where
  sending : Front F G s.order.mode Enciphering (listed s.order.values) s.taken s.handed_out
  sending =
      subst (λ way. Front F G s.order.mode way (listed s.order.values) s.taken s.handed_out) pair.enciphers
      (each_run F G pair.depth pair.calls pair.follows s pair.sends)

  receiving : Front F' G' s.order.mode Deciphering (listed r.order.values) r.taken r.handed_out
  receiving =
      subst (λ m. Front F' G' m Deciphering (listed r.order.values) r.taken r.handed_out) pair.one_mode
      (subst (λ way. Front F' G' r.order.mode way (listed r.order.values) r.taken r.handed_out) pair.deciphers
      (each_run F' G' pair.depth' pair.calls' pair.follows' r pair.receives))

  -- the same, where the initial values agree
  receiving_alike : Agree s r → Front F' G' s.order.mode Deciphering (listed s.order.values) r.taken r.handed_out
  receiving_alike agree = subst (λ ivs. Front F' G' s.order.mode Deciphering ivs r.taken r.handed_out) agree receiving

  sent_at : (i : ℕ) → i < length s.handed_out
      → get_or s.handed_out i 0 ≡ get_or (sent F G s.order.mode (listed s.order.values) s.taken) i 0
  sent_at i l = front_at F G s.order.mode Enciphering (listed s.order.values) s.taken s.handed_out sending i l

  pub restored : Restored s r
  restored agree n arrived i l =
      let m = s.order.mode in
      let ivs = listed s.order.values in
      let ps = s.taken in
      let cs = sent F G m ivs ps in
      let front = receiving_alike agree in
      let out = length r.handed_out in
      let few = sending.few in
      let few' = front.few in
      let size = length_results F G m Enciphering ivs ps (length ps) in
      let came : length r.taken ≤ n = omega (arith, ap length arrived, length-take n s.handed_out) in
      let came' : length r.taken ≤ length s.handed_out = omega (arith, ap length arrived, length-take n s.handed_out) in
      let same : (k : ℕ) → k < out → get_or r.taken k 0 ≡ get_or cs k 0 =
      λ k q. ap (λ xs. get_or xs k 0) arrived ∙ get_or-take n s.handed_out k 0 (omega arith) ∙ sent_at k (omega arith) in
      let plain : r.handed_out ≡ take out ps =
      front.first
      ∙ results_same F' G' m Deciphering ivs r.taken cs out same
      ∙ sym (take_results F' G' m Deciphering ivs cs out (length cs) (omega arith))
      ∙ ap (take out) (restoring F G F' G' pair.ends m ivs ps sending.begins sending.narrow) in
      ap (λ xs. get_or xs i 0) plain ∙ get_or-take out ps i 0 l

  pub recovered : Recovered s r
  recovered back mem i j li hi lj hj same =
      let m = s.order.mode in
      let ivs = listed s.order.values in
      let ivs' = listed r.order.values in
      let few = sending.few in
      let few' = receiving.few in
      front_at F' G' m Deciphering ivs' r.taken r.handed_out receiving j hj
      ∙ recovery F G F' G' pair.ends m back mem ivs ivs' s.taken r.taken sending.begins receiving.begins sending.narrow receiving.narrow
      i j li (omega arith) lj (omega arith) (λ k l. same k l ∙ sent_at (i - k) (omega arith))

  pub contained : Contained s r
  contained agree len d hd alike ne =
      let m = s.order.mode in
      let f = (row m).family in
      let ivs = listed s.order.values in
      let ps = s.taken in
      let xs = r.taken in
      let hs = s.handed_out in
      let qs = r.handed_out in
      let front = receiving_alike agree in
      let few = sending.few in
      let few' = front.few in
      let size : length (received F' G' m ivs xs) ≡ length xs = length_results F' G' m Deciphering ivs xs (length xs) in
      let e = bit_xor (get_or hs d 0) (get_or xs d 0) in
      let at = front_at F' G' m Deciphering ivs xs qs front in
      let altered : get_or hs d 0 ≡ get_or (sent F G m ivs ps) d 0 = sent_at d (omega arith) in
      let damaged : Damaged m ps (received F' G' m ivs xs) d e =
      subst (λ c. Damaged m ps (received F' G' m ivs xs) d (bit_xor c (get_or xs d 0))) (sym altered)
      (damage F G F' G' pair.ends m ivs ps xs sending.begins sending.narrow front.narrow (omega arith) d hd
      (λ i l nd. alike i l nd ∙ sent_at i (omega arith)) (λ q. ne (q ∙ sym altered))) in
      record {
        right = λ i l nd nr. at i l ∙ damaged.right i (omega arith) nd nr;
        struck = λ l. subst (λ q. Struck f (get_or ps d 0) q e) (sym (at d l)) damaged.struck;
        reached = λ i l near. subst (λ q. Reached f (row m).width (get_or ps i 0) q e) (sym (at i l)) (damaged.reached i (omega arith) near);
      }
