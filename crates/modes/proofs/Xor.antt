-- Exclusive or.
use Rattle.std.proofs.Common.{◌≡◌, ℕ, sym, ap, ◌∙◌}
use lib.Bits.{bit_xor, xor_self, xor_zero_r, xor_zero_l, xor_assoc, xor_comm}

pub xor_twice : (a b : ℕ) → bit_xor (bit_xor a b) b ≡ a
xor_twice a b = simp (xor_assoc, xor_self, xor_zero_r)

-- a mask taken off again
pub unmasked : (a b k : ℕ) → a ≡ bit_xor b k → b ≡ bit_xor a k
unmasked a b k e = rw e (sym (xor_twice b k))

pub xor_last_two : (a b c : ℕ) → bit_xor (bit_xor a b) c ≡ bit_xor (bit_xor a c) b
xor_last_two a b c = rw (xor_assoc, xor_assoc, xor_comm b c)

-- x is c altered by the difference of the two
pub xor_difference : (c x : ℕ) → bit_xor c (bit_xor c x) ≡ x
xor_difference c x = rw (← xor_assoc c c x, xor_self, xor_zero_l)

pub xor_cancel : (a b c : ℕ) → bit_xor a b ≡ bit_xor a c → b ≡ c
xor_cancel a b c e = sym (xor_difference a b) ∙ ap (bit_xor a) e ∙ xor_difference a c
