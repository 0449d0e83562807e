use Rattle.std.proofs.Common.{◌≡◌, ℕ, ◌+◌, sym, subst, arith, rules}
use Rattle.cipher.specs.Bytes.{block_at}
use Rattle.keys.specs.Parity.{OddBytes}
use Rattle.keys.proofs.OddBytes.{none_even, odd_block}
use Rattle.keys.proofs.loading.key_at.Goals as goal

pub invariant_of-result : goal.invariant_of-result
invariant_of-result c =
    let bytes = c.args.bytes.now in
    let at : ℕ = c.args.at in
    let word : c.unwrap-word.result ≡ block_at bytes at = search rules in
    record {
      odd = subst OddBytes (sym word)
          (odd_block bytes at (λ k. (c.type_inv.bytes k).fits) (λ k h. none_even 0 bytes c.requires.odd (at + k) (omega arith)));
    }
