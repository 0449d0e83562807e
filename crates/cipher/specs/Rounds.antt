-- Enciphering a block: IP, sixteen rounds, the halves crossed, the inverse of IP.
use Rattle.std.specs.Prelude.{ℕ, zero, suc, ◌+◌, ◌*◌, ◌/◌, ◌%◌, ◌^◌, List, [], ◌∷◌, bit_xor, slice_index}
use Rattle.cipher.specs.Words.{select}
use Rattle.cipher.specs.Tables.{ip_table, ip_inverse_table, e_table, s_table, p_table}

unfoldable pub ip : ℕ → ℕ
ip b = select 64 ip_table b

unfoldable pub ip_inverse : ℕ → ℕ
ip_inverse b = select 64 ip_inverse_table b

-- E: 32 bits become 48
unfoldable pub expanded : ℕ → ℕ
expanded r = select 32 e_table r

-- S box i, from 0, at six bits: the first and the last name the row, the middle four the column
unfoldable pub s_box : ℕ → ℕ → ℕ
s_box i six = slice_index s_table (i * 64 + (six / 32 * 2 + six % 2) * 16 + six / 2 % 16)

-- the first n boxes, at six bits each: four bits of each, side by side
unfoldable pub substituted : ℕ → ℕ → ℕ
substituted zero x = 0
substituted (suc n) x = substituted n (x / 64) * 16 + s_box n (x % 64)

-- P: the 32 bits of the boxes change places
unfoldable pub permuted : ℕ → ℕ
permuted x = select 32 p_table x

-- f(R, K)
unfoldable pub f : ℕ → ℕ → ℕ
f r k = permuted (substituted 8 (bit_xor (expanded r) k))

-- one round: L' = R, R' = L ⊕ f(R, K)
abbrev pub round : ℕ → ℕ × ℕ → ℕ × ℕ
round k (l, r) = (r, bit_xor l (f r k))

-- a round for each of the round keys
abbrev pub rounds : List ℕ → ℕ × ℕ → ℕ × ℕ
rounds [] p = p
rounds (k ∷ ks) p = rounds ks (round k p)

-- a block as its halves L and R
abbrev pub halves : ℕ → ℕ × ℕ
halves b = (b / 2 ^ 32, b % 2 ^ 32)

-- the halves crossed: R before L
abbrev pub crossed : ℕ × ℕ → ℕ
crossed (l, r) = r * 2 ^ 32 + l

-- a block under round keys, in the order of their use
unfoldable pub under : List ℕ → ℕ → ℕ
under ks b = ip_inverse (crossed (rounds ks (halves (ip b))))
