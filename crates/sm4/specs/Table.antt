-- Tables of words that join the byte table with the rotations that follow it (02, §9): entry by entry, what a byte of a word adds, by
-- xor, to T or T' of the word. They are given by their rule alone; the definition of the cipher knows of none.
-- Assumes nothing.
use Rattle.std.specs.Prelude.{List, [], ◌∷◌, ◌++◌, ℕ, zero, suc, ◌-◌, ◌*◌}
use Rattle.bits.specs.Str.{Bits, bits_n, num_of, zeros}
use Rattle.sm4.specs.Cipher.{Sbox, L, L'}

-- a word whose byte j, the highest counted as 0, is b, and whose other bytes are zero
unfoldable pub placed : ℕ → Bits → Bits
placed j b = zeros (8 * j) ++ (b ++ zeros (24 - 8 * j))

-- what the byte x in place j of a word adds, as bits and as a number; l is L or L'
unfoldable pub share : (Bits → Bits) → ℕ → ℕ → Bits
share l j x = l (placed j (Sbox (bits_n 8 x)))

unfoldable pub entry : (Bits → Bits) → ℕ → ℕ → ℕ
entry l j x = num_of (share l j x)

-- n of these, from the byte x on
unfoldable pub entries : (Bits → Bits) → ℕ → ℕ → ℕ → List ℕ
entries l j zero x = []
entries l j (suc n) x = entry l j x ∷ entries l j n (suc x)

-- the table that a caller lends to every call: for T and then for T', a byte in the first place
unfoldable pub table : List ℕ
table = entries L 0 256 0 ++ entries L' 0 256 0

-- the table that long messages take besides: for T, a byte in each of the other three places
unfoldable pub wide : List ℕ
wide = entries L 1 256 0 ++ (entries L 2 256 0 ++ entries L 3 256 0)
