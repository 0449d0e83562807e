-- The most units that one cartridge takes.
use Rattle.std.specs.Prelude.{ℕ}

abbrev pub unit_limit : ℕ
unit_limit = 1048576
