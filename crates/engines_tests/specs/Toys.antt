-- The functions of the toy ciphers.
use Rattle.std.specs.Prelude.{ℕ, ◌+◌, ◌-◌, ◌*◌, ◌/◌, ◌%◌, ◌^◌, bit_xor}

abbrev pub rotated : ℕ → ℕ
rotated b = b % 2 ^ 56 * 2 ^ 8 + b / 2 ^ 56

abbrev pub rotated_back : ℕ → ℕ
rotated_back b = b % 2 ^ 8 * 2 ^ 56 + b / 2 ^ 8

abbrev pub added : ℕ → ℕ → ℕ
added n b = (b + n) % 2 ^ 64

abbrev pub taken_off : ℕ → ℕ → ℕ
taken_off n b = (b + (2 ^ 64 - n % 2 ^ 64)) % 2 ^ 64

abbrev pub crossed : ℕ → ℕ → ℕ
crossed mask b = bit_xor b (mask % 2 ^ 64)
