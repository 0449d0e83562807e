use Rattle.std.proofs.Common.{◌≡◌, ◌-◌, ◌*◌, ◌/◌, ◌^◌, ◌≤◌, drop}
use lib.Bits.{bit_xor}
use Rattle.cipher.specs.Rounds.{substituted, permuted, expanded}
use Rattle.cipher.proofs.dea.Dea.mix.Given as goal

abbrev pub invariant-loop-i : goal.invariant-loop-i
invariant-loop-i l = record {
  rest : l.i-iterator.iter.rest.now ≡ drop (l.i-iterator.count * 64) l.self.substitution;
  size : l.i-iterator.iter.size ≡ 64;
  few : l.i-iterator.count ≤ 8;
  mixed : l.mixed ≡ permuted (substituted l.i-iterator.count (bit_xor (expanded l.right) l.key / 2 ^ (48 - 6 * l.i-iterator.count)) * 2 ^ (4 * (8 - l.i-iterator.count)));
}
