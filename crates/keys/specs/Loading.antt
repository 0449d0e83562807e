-- What loading answers: the refusal, or the words of the keys, each from eight bytes, the highest first.
use Rattle.std.specs.Prelude.{ℕ, cond, ◌&&◌, List, length, Some, None, Ok, Err, Option, Result, ◌==◌}
use Rattle.std.specs.Result.{result_and}
use Rattle.refusals.specs.declared.Refusal.{Refusal}
use Rattle.refusals.specs.declared.Refusal.TheVariants.{KeyLength, KeyParity, SameKeys}
use Rattle.cipher.specs.Bytes.{block_at}
use Rattle.keys.specs.declared.SingleKey.{SingleKey}
use Rattle.keys.specs.declared.KeyBundle.{KeyBundle}
use Rattle.keys.specs.Parity.{first_even}

-- refused for an even byte, if there is one
abbrev pub parity_checked : Option ℕ → Result (Unit {0}) Refusal
parity_checked (Some i) = Err (KeyParity i)
parity_checked None = Ok tt

-- the length first, then the parity
abbrev pub checked : ℕ → List ℕ → Result (Unit {0}) Refusal
checked n bs = cond (length bs == n) (parity_checked (first_even 0 bs)) (Err (KeyLength (length bs)))

abbrev pub single_loaded : List ℕ → Result ℕ Refusal
single_loaded bs = result_and (checked 8 bs) (Ok (block_at bs 0))

-- three words, unless all are the same
abbrev pub joined : ℕ → ℕ → ℕ → Result (ℕ × ℕ × ℕ) Refusal
joined a b c = cond (a == b && b == c) (Err SameKeys) (Ok (a, b, c))

abbrev pub bundle_loaded : List ℕ → Result (ℕ × ℕ × ℕ) Refusal
bundle_loaded bs = result_and (checked 24 bs) (joined (block_at bs 0) (block_at bs 8) (block_at bs 16))

-- what an answer of loading holds
abbrev pub word_of : Result SingleKey Refusal → Result ℕ Refusal
word_of (Ok k) = Ok k.word
word_of (Err e) = Err e

abbrev pub words_of : Result KeyBundle Refusal → Result (ℕ × ℕ × ℕ) Refusal
words_of (Ok b) = Ok (b.first.word, b.second.word, b.third.word)
words_of (Err e) = Err e
