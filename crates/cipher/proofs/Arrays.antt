-- What calls of a closure at each place of an array give.
use Rattle.std.proofs.Common.{◌≡◌, ℕ, zero, suc, ◌+◌, ◌<◌, ◌≤◌, Bool, true, Some, List, [], ◌∷◌, length, get_or, drop, sym, subst, ap, ap₂, ◌∙◌, inl, inr, eq-or-lt_of_le, arith}
use denote.Param.Members.{Mut, Called}
use Rattle.std.specs.Array.{IsFromFnResult, IsFromFnResultFrom, IsMapOf, MapsFrom, list_steps}
use Rattle.std.specs.Iterator.{Yields, CallableAtEachTurn}
use Rattle.std.proofs.lemmas.List.{drop_more, drop_all}
use Rattle.std.proofs.lemmas.Bool.{and_parts}
use Rattle.cipher.specs.KeySchedule.{step, pc2, round_keys_from}
use Rattle.cipher.proofs.Tests.{all_of}

-- `array::from_fn` by a closure that stays f and answers as h
module _ {F : Type 0} (g : Mut F (ℕ × Unit {0}) ℕ) (f : F) (h : ℕ → ℕ) where
  each_made : (ys : List ℕ) (i n : ℕ) → ((k y : ℕ) (q : F) → k < i + n → Called g f (k, tt) y q → (q ≡ f) × (y ≡ h k))
      → IsFromFnResultFrom g f ys i n → (k : ℕ) → i ≤ k → k < i + n → get_or ys k 0 ≡ h k
  each_made ys i zero answers calls k from below = absurd (let no : ⊥ = omega arith in no)
  each_made ys i (suc n) answers (q, y, at, called, more) k from below =
      let answer = answers i y q (omega arith) called in
      elim (eq-or-lt_of_le from) [
        | inl here ↦ subst (λ (j : ℕ). get_or ys j 0 ≡ h j) here (at.1 0 ∙ answer.1)
        | inr later ↦
            each_made ys (i + 1) n (λ k y q fits. answers k y q (omega arith))
            (subst (λ (p : F). IsFromFnResultFrom g p ys (i + 1) n) answer.0 more) k (omega arith) (omega arith)
      ]

  pub made_by : (ys : List ℕ) (n : ℕ) → ((k y : ℕ) (q : F) → k < n → Called g f (k, tt) y q → (q ≡ f) × (y ≡ h k))
      → IsFromFnResult g f ys n → (k : ℕ) → k < n → get_or ys k 0 ≡ h k
  made_by ys n answers made k below = each_made ys 0 n (λ k y q fits. answers k y q (omega arith)) made.each k (omega arith) (omega arith)

-- `map` by a closure that holds the halves and answers a round key at each step
module _ {F : Type 0} (g : Mut F (ℕ × Unit {0}) ℕ) (halves : F → ℕ × ℕ)
    (steps : (f q : F) (s key : ℕ) → Called g f (s, tt) key q → (halves q ≡ step s (halves f)) × (key ≡ pc2 (step s (halves f)))) where
  each_step : (ss keys : List ℕ) (i n : ℕ) (f : F) → i + n ≡ length ss → length keys ≡ length ss
      → MapsFrom g f ss keys i n → drop i keys ≡ round_keys_from (drop i ss) (halves f)
  each_step ss keys i zero f all long calls =
      drop_all i keys (omega arith) ∙ ap (λ l. round_keys_from l (halves f)) (sym (drop_all i ss (omega arith)))
  each_step ss keys i (suc n) f all long (q, s, key, at, made, called, more) =
      let stepped = steps f q s key called in
      let rest = each_step ss keys (i + 1) n q (omega arith) long more in
      drop_more keys i 0 (omega arith)
      ∙ ap₂ (λ (k : ℕ) (l : List ℕ). k ∷ l) (made.1 0 ∙ stepped.1) (rest ∙ ap (round_keys_from (drop (i + 1) ss)) stepped.0)
      ∙ sym (ap (λ l. round_keys_from l (halves f)) (drop_more ss i 0 (omega arith)) ∙ ap (λ (s : ℕ). round_keys_from (s ∷ drop (i + 1) ss) (halves f)) (at.1 0))

  pub stepped_by : (ss keys : List ℕ) (n : ℕ) (f : F) → n ≡ length ss → IsMapOf g f ss keys n → keys ≡ round_keys_from ss (halves f)
  stepped_by ss keys n f all mapped = each_step ss keys 0 n f (omega arith) (mapped.long ∙ all) mapped.each

item_passes : (test : ℕ → Bool) (s xs t u : List ℕ) (x : ℕ) → all_of test s ≡ true → Yields list_steps s xs t → list_steps t (Some x) u → test x ≡ true
item_passes test s [] t u x passes same item =
    (and_parts (test x) (all_of test u) (ap (all_of test) (sym (same ∙ item)) ∙ passes)).0
item_passes test s (y ∷ ys) t u x passes (j, first, more) item =
    item_passes test j ys t u x (and_parts (test y) (all_of test j) (ap (all_of test) (sym first) ∙ passes)).1 more item

-- what may be asked of any number that passes a test may be asked of each item of a list that passes it
pub serves_each : {P : Type 0} {R : P → ℕ → P → Type 0} {Q : P → ℕ → Type 0} {p : P} (test : ℕ → Bool) (s : List ℕ) → all_of test s ≡ true
    → ((q : P) (x : ℕ) → test x ≡ true → Q q x) → CallableAtEachTurn list_steps R Q s p
serves_each test s passes serves = record { at = λ xs t q x u yields folds item. serves q x (item_passes test s xs t u x passes yields item) }
