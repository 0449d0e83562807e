-- No engine is deeper than this.
use Rattle.std.specs.Prelude.{ℕ}

abbrev pub the_greatest_depth : ℕ
the_greatest_depth = 8
