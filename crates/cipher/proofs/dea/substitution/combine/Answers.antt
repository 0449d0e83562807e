use Rattle.std.proofs.Common.{◌≡◌, ℕ, ◌+◌, ◌*◌, ◌/◌, ◌%◌, ◌<◌, List, get_or, ap, ◌∙◌, ap₂, rules, arith}
use Rattle.std.proofs.lemmas.List.FromFn.{fill_by_all}
use Rattle.std.proofs.lemmas.Nat.{div-mul-add, mod-mul-add}
use Rattle.cipher.specs.Rounds.{s_box}
use Rattle.cipher.specs.Combined.{permuted_answer, combined}
use Rattle.cipher.proofs.Arrays.{made_by}
use Rattle.cipher.proofs.dea.substitution.combine.Goals as goal

-- the answer that the table has at a box and its four bits
answer_at : (answers : List ℕ) → ((n : ℕ) → n < 128 → get_or answers n 0 ≡ permuted_answer (n / 16) (n % 16))
    → (i four s : ℕ) → i < 8 → four < 16 → four ≡ s → get_or answers (i * 16 + four) 0 ≡ permuted_answer i s
answer_at answers all i four s hi h e =
    all (i * 16 + four) (omega arith) ∙ ap₂ permuted_answer (div-mul-add i 16 four h) (mod-mul-add i 16 four h) ∙ ap (permuted_answer i) e

pub returns : goal.returns
unfolding combined
returns c =
    let entry : ℕ → ℕ = λ n. permuted_answer (n / 64) (s_box (n / 64) (n % 64)) in
    fill_by_all entry c.from_fn.result 512 0 c.from_fn.ensures.items.long
    (made_by _ _ entry c.from_fn.result 512
    (λ n answer q below called. search (rules, answer_at c.permuted_answers-answers.result c.permuted_answers-answers.ensures)) c.from_fn.ensures.items)
