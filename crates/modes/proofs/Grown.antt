-- Lists that grow one by one.
use Rattle.std.proofs.Common.{◌≡◌, ℕ, zero, suc, ◌^◌, ◌<◌, ◌≤◌, List, [], ◌∷◌, ◌++◌, length, get_or, take, sym, refl, ◌∙◌, arith}
use Rattle.std.proofs.lemmas.List.{get_or-take, length-take-le, ext_get_or}
use Rattle.std.proofs.lemmas.Grind.{common_steps}
use Rattle.modes.specs.Values.{Units}
use Rattle.modes.specs.Results.{grown}

pub units_push : (w : ℕ) (us : List ℕ) (u : ℕ) → Units w us → u < 2 ^ w → Units w (us ++ u ∷ [])
units_push w us u hs h k l = grind (arith, common_steps, hs k)

module _ (next : List ℕ → ℕ → ℕ) where
  pub length_grown : (n : ℕ) → length (grown next n) ≡ n
  length_grown zero = refl
  length_grown (suc n) = grind (arith, common_steps, length_grown n)

  pub grown_at : (n i : ℕ) → i < n → get_or (grown next n) i 0 ≡ next (grown next i) i
  grown_at zero i h = absurd (omega arith)
  grown_at (suc n) i h = grind (arith, common_steps, length_grown n, grown_at n i)

  -- two of different length agree as far as both go
  pub grown_agree : (m n i : ℕ) → i < m → i < n → get_or (grown next m) i 0 ≡ get_or (grown next n) i 0
  grown_agree m n i hm hn = grown_at m i hm ∙ sym (grown_at n i hn)

  pub take_grown : (k n : ℕ) → k ≤ n → take k (grown next n) ≡ grown next k
  take_grown k n h =
      let len = length_grown n in
      let short : length (take k (grown next n)) ≡ k = length-take-le k (grown next n) (omega arith) in
      ext_get_or 0 (take k (grown next n)) (grown next k) (short ∙ sym (length_grown k))
      (λ i l. let l' : i < k = omega arith in get_or-take k (grown next n) i 0 l' ∙ grown_agree n k i (omega arith) l')

  pub units_grown : (w n : ℕ) → ((i : ℕ) → i < n → Units w (grown next i) → next (grown next i) i < 2 ^ w) → Units w (grown next n)
  units_grown w zero h = λ k l. absurd (omega arith)
  units_grown w (suc n) h =
      let ih = units_grown w n (λ i l. h i (omega arith)) in
      units_push w (grown next n) _ ih (h n (omega arith) ih)

pub grown_same : (next next' : List ℕ → ℕ → ℕ) (n : ℕ) → ((i : ℕ) → i < n → next (grown next i) i ≡ next' (grown next i) i) → grown next n ≡ grown next' n
grown_same next next' zero h = refl
grown_same next next' (suc n) h =
    let ih = grown_same next next' n (λ i l. h i (omega arith)) in
    let e = h n (omega arith) in
    cc
