use Rattle.std.proofs.Common.{◌≡◌, take}
use Rattle.cipher.specs.Words.{select}
use Rattle.cipher.proofs.dea.words.select.Given as goal

abbrev pub invariant-loop-place : goal.invariant-loop-place
invariant-loop-place l = l.bits ≡ select l.width (take l.place-index l.table) l.word
