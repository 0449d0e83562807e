-- What the user is told of a job: lines of text, each with a line feed at its end.
use Rattle.std.specs.Prelude.{ℕ, ◌/◌, ◌%◌, List, [], ◌∷◌, Ok, Err, codes, decimal, Result, slice_index}
use Rattle.std.specs.List.{concat as text_of, flat_map}
use Rattle.refusals.specs.declared.Refusal.{Refusal}
use Rattle.refusals.specs.Refusals.{number_of, detail_of}
use Rattle.jobs.specs.Meaning.{Done}

-- the capital digit of a number below 16
abbrev pub digit_of : ℕ → ℕ
digit_of n = slice_index (codes "0123456789ABCDEF") n

-- the high digit first
abbrev pub digits_of_byte : ℕ → List ℕ
digits_of_byte b = digit_of (b / 16) ∷ digit_of (b % 16) ∷ []

abbrev pub hexadecimal_of : List ℕ → List ℕ
hexadecimal_of bytes = flat_map digits_of_byte bytes

abbrev pub line_feed : List ℕ
line_feed = 10 ∷ []

-- how many units, in how many cycles, and the bytes
abbrev pub lines_of_report : (units cycles : ℕ) → List ℕ → List ℕ
lines_of_report units cycles bytes =
    text_of (codes "UNITS " ∷ decimal units ∷ line_feed
    ∷ codes "CYCLES " ∷ decimal cycles ∷ line_feed
    ∷ hexadecimal_of bytes ∷ line_feed ∷ [])

-- the number of the refusal and its detail
abbrev pub line_of_refusal : Refusal → List ℕ
line_of_refusal e = text_of (codes "REFUSED " ∷ decimal (number_of e) ∷ codes " " ∷ decimal (detail_of e) ∷ line_feed ∷ [])

-- what became of a job
abbrev pub answer_text : Result Done Refusal → List ℕ
answer_text (Ok d) = lines_of_report d.units d.cycles d.bytes
answer_text (Err e) = line_of_refusal e
