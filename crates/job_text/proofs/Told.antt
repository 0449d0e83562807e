-- The answer to a job, from what its run reported.
use Rattle.std.proofs.Common.{◌≡◌, ℕ, List, [], ◌∷◌, length, take, drop, Ok, Err, Result, refl, ap}
use Rattle.std.proofs.lemmas.List.{take_at}
use Rattle.refusals.specs.declared.Refusal.{Refusal}
use Rattle.jobs.specs.declared.report.Report.{Report}
use Rattle.jobs.specs.Meaning.{Done, report_of, reported, output_after}
use Rattle.hex.specs.Hex.{encode_with, encode_upper}
use Rattle.job_text.specs.Texts.{hexadecimal_of, lines_of_report, line_of_refusal, answer_text}

-- the bytes of the results stand first in the output list
pub report_told : (m : Result Done Refusal) (t : Report) (xs ys : List ℕ) → Ok t ≡ reported m → ys ≡ output_after m xs → lines_of_report t.units t.cycles (take t.bytes ys) ≡ answer_text m
report_told (Ok d) t xs ys e f =
    let same : t ≡ report_of d = cc in
    rw (same, f) (ap (lines_of_report d.units d.cycles) (take_at d.bytes (drop (length d.bytes) xs) _ refl))
report_told (Err r) t xs ys e f = cc

-- a refusal is told as it was answered
pub refusal_told : (m : Result Done Refusal) (r : Refusal) → Err r ≡ reported m → line_of_refusal r ≡ answer_text m
refusal_told (Ok d) r e = cc
refusal_told (Err s) r e = let same : r ≡ s = cc in ap line_of_refusal same

-- the library's digits are the same
pub encoded : (bytes : List ℕ) → encode_upper bytes ≡ hexadecimal_of bytes
unfolding encode_with
encoded [] = refl
encoded (b ∷ bytes) = rw (encoded bytes)
