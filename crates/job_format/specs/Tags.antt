-- The bytes that stand for the tags.
use Rattle.std.specs.Prelude.{ℕ}
use Rattle.job_format.specs.declared.tag.Tag.{Tag}
use Rattle.job_format.specs.declared.tag.Tag.TheVariants.{Keys, Code, Direction, InitialValues, Data}

abbrev pub tag_number : Tag → ℕ
tag_number Keys = 1
tag_number Code = 2
tag_number Direction = 3
tag_number InitialValues = 4
tag_number Data = 5
