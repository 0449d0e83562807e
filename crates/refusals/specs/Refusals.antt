-- The number and the detail of each refusal, as the user is told them.
use Rattle.std.specs.Prelude.{ℕ}
use Rattle.refusals.specs.declared.Refusal.{Refusal}
use Rattle.refusals.specs.declared.Refusal.TheVariants.{KeyLength, KeyParity, SameKeys, UnknownCode, InitialValueLength, OutputLength, UnitWidth, UnitLimit, FieldTruncated, FieldTag, TrailingBytes, FieldLength, UnknownDirection, DataLength, PartialUnit}

abbrev pub number_of : Refusal → ℕ
number_of (KeyLength length) = 1
number_of (KeyParity index) = 2
number_of SameKeys = 3
number_of (UnknownCode code) = 4
number_of (InitialValueLength length) = 5
number_of (OutputLength length) = 6
number_of (UnitWidth index) = 7
number_of (UnitLimit left) = 8
number_of (FieldTruncated offset) = 9
number_of (FieldTag offset) = 10
number_of (TrailingBytes offset) = 11
number_of (FieldLength tag) = 12
number_of (UnknownDirection direction) = 13
number_of (DataLength length) = 14
number_of (PartialUnit length) = 15

abbrev pub detail_of : Refusal → ℕ
detail_of (KeyLength length) = length
detail_of (KeyParity index) = index
detail_of SameKeys = 0
detail_of (UnknownCode code) = code
detail_of (InitialValueLength length) = length
detail_of (OutputLength length) = length
detail_of (UnitWidth index) = index
detail_of (UnitLimit left) = left
detail_of (FieldTruncated offset) = offset
detail_of (FieldTag offset) = offset
detail_of (TrailingBytes offset) = offset
detail_of (FieldLength tag) = tag
detail_of (UnknownDirection direction) = direction
detail_of (DataLength length) = length
detail_of (PartialUnit length) = length
