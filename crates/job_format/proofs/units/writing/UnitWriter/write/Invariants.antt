use Rattle.std.proofs.Common.{◌≡◌, ◌+◌, ◌*◌, take}
use Rattle.std.specs.List.{flat_map}
use Rattle.job_format.specs.UnitBytes.{last_bytes, overwritten}
use Rattle.job_format.proofs.units.writing.UnitWriter.write.Given as goal

-- the units before this one are written
abbrev pub invariant-loop-unit : goal.invariant-loop-unit
invariant-loop-unit l = record {
  end : l.self.end ≡ l.initial.self.end + l.size * l.unit-index;
  output : l.self.out.now ≡ overwritten l.initial.self.out.now l.initial.self.end (flat_map (last_bytes l.size) (take l.unit-index l.units));
  reference : l.self.out.ghost_name ≡ l.initial.self.out.ghost_name;
  mode : l.self.mode ≡ l.initial.self.mode;
}
