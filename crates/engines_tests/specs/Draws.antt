-- A linear congruential generator, and what is drawn from it.
use Rattle.std.specs.Prelude.{ℕ, ◌+◌, ◌*◌, ◌/◌, ◌%◌, ◌^◌, cond, Some, None, Option, ◌==◌, nat_lt}
use Rattle.engines.specs.declared.work.Direction.TheVariants.{Forward, Inverse}
use Rattle.engines.specs.declared.work.Work.{Work}

abbrev pub next : ℕ → ℕ
next n = (n * 6364136223846793005 % 2 ^ 64 + 1442695040888963407) % 2 ^ 64

-- the highest four bits of one number say what goes in, and the number after it is the block
abbrev pub drawn : ℕ → Option Work
drawn n =
    let kind = next n / 2 ^ 60 in
    cond (nat_lt kind 5) None (Some (record { block = next (next n); direction = cond (kind % 2 == 0) Forward Inverse }))
