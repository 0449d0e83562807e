-- The keys of a job: eight bytes are one key, on a plain engine over single DEA; 24 are three, on the line.
use Rattle.std.specs.Prelude.{ℕ, cond, List, length, Ok, Err, Result, ◌==◌}
use Rattle.refusals.specs.declared.Refusal.{Refusal}
use Rattle.cipher.specs.Dea.{dea, dea_inverse, triple_dea, triple_dea_inverse}
use Rattle.keys.specs.Loading.{single_loaded, bundle_loaded}
use Rattle.engines.specs.Machines.{Machine, resting}
use Rattle.job_format.specs.Fields.{and_then}
use Rattle.jobs.specs.declared.key_set.KeySet.{KeySet}
use Rattle.jobs.specs.declared.key_set.KeySet.TheVariants.{Single, Bundle}

-- the word of one key, or those of three
pub data Words : Type 0 where
  one : ℕ → Words
  three : ℕ → ℕ → ℕ → Words

-- what a key field loads: any length but 8 is the bundle's to judge
abbrev pub keys_loaded : List ℕ → Result Words Refusal
keys_loaded field =
    cond (length field == 8) (and_then (single_loaded field) (λ k. Ok (one k)))
    (and_then (bundle_loaded field) (λ ks. Ok (three ks.0 ks.1 ks.2)))

-- the words of loaded keys
abbrev pub words_held : KeySet → Words
words_held (Single k) = one k.word
words_held (Bundle b) = three b.first.word b.second.word b.third.word

abbrev pub words_in : Result KeySet Refusal → Result Words Refusal
words_in (Ok keys) = Ok (words_held keys)
words_in (Err e) = Err e

-- the engine that they run on
abbrev pub machine_under : Words → Machine
machine_under (one k) = resting (dea k) (dea_inverse k) 1
machine_under (three a b c) = resting (triple_dea a b c) (triple_dea_inverse a b c) 3
