-- What a reader of units has left.
use Rattle.std.specs.Prelude.{ℕ, List}
use Rattle.modes.specs.Table.{row}
use Rattle.job_format.specs.declared.units.reading.UnitReader.{UnitReader}
use Rattle.job_format.specs.UnitBytes.{units_in}

abbrev pub units_left : UnitReader → List ℕ
units_left r = units_in (row r.mode).width r.bytes.now
