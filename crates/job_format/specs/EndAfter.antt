-- Where a writer of units ends.
use Rattle.std.specs.Prelude.{ℕ, Some, None, Ok, Err, Option, Result}
use Rattle.refusals.specs.declared.Refusal.{Refusal}

-- where a writer that now ends at an offset has written, if it has
abbrev pub end_after : Result (Unit {0}) Refusal → ℕ → Option ℕ
end_after (Ok done) end = Some end
end_after (Err e) end = None
