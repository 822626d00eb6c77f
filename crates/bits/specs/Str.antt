-- Bit strings, the highest bit first. A message, a block, a key, a tag and a word of the cipher are bit strings; numbers
-- and bytes live in the code alone, and here is how they are read as bit strings. Nothing here knows a block's width.
-- Assumes nothing.
use Rattle.std.specs.Prelude.{Bool, true, false, ◌&&◌, cond, not, ℕ, zero, suc, ◌+◌, ◌-◌, ◌*◌, ◌/◌, ◌%◌, ◌^◌, eqb, length, take, drop, get_or, replicate}
use Rattle.std.specs.Bool.{xor, beq}
use mathlib.Core.List.{List, [], ◌∷◌, ◌++◌, map, flat_map, zip_with}
use Rattle.bits.specs.Choice.{pick}

abbrev pub Bits : Type 0
Bits = List Bool

-- ---- numbers, bytes, words

-- a binary digit as a bit
unfoldable pub digit : ℕ → Bool
digit zero = false
digit (suc n) = true

-- the k low binary digits of x
unfoldable pub bits_n : ℕ → ℕ → Bits
bits_n zero x = []
bits_n (suc k) x = digit (x / 2 ^ k % 2) ∷ bits_n k x

-- the number whose binary digits are the string
unfoldable pub num_of : Bits → ℕ
num_of [] = 0
num_of (b ∷ w) = cond b 1 0 * 2 ^ length w + num_of w

-- bytes one after the other, eight bits each
unfoldable pub bytes_bits : List ℕ → Bits
bytes_bits xs = flat_map (bits_n 8) xs

-- whether two rows of bytes are the same
unfoldable pub same_row : List ℕ → List ℕ → Bool
same_row [] [] = true
same_row [] (y ∷ ys) = false
same_row (x ∷ xs) [] = false
same_row (x ∷ xs) (y ∷ ys) = eqb x y && same_row xs ys

-- numbers as words of 32 bits
unfoldable pub words : List ℕ → List Bits
words xs = map (bits_n 32) xs

-- ---- what is done with strings

unfoldable pub zeros : ℕ → Bits
zeros n = replicate n false

-- bit by bit; the shorter string decides how far
unfoldable pub xor_b : Bits → Bits → Bits
xor_b u v = zip_with xor u v

-- whether two strings are the same
unfoldable pub same_b : Bits → Bits → Bool
same_b [] [] = true
same_b [] (c ∷ v) = false
same_b (b ∷ u) [] = false
same_b (b ∷ u) (c ∷ v) = beq b c && same_b u v

-- rotated left by k: the first k bits come last
unfoldable pub rotl : ℕ → Bits → Bits
rotl k w = drop k w ++ take k w

-- rotated right by k: the last k bits come first
unfoldable pub rotr : ℕ → Bits → Bits
rotr k w = drop (length w - k) w ++ take (length w - k) w

unfoldable pub leftmost : ℕ → Bits → Bits
leftmost m w = take m w

unfoldable pub rightmost : ℕ → Bits → Bits
rightmost m w = drop (length w - m) w

-- with zeros after it, to n bits
unfoldable pub filled : ℕ → Bits → Bits
filled n w = w ++ zeros (n - length w)

-- shifted left by one bit: the first bit goes, a zero comes last
unfoldable pub shiftl : Bits → Bits
shiftl w = drop 1 w ++ zeros 1

-- doubled: shifted left by one, and, where the bit shifted out was 1, the number c put in by xor. c is the low part of the
-- field's polynomial, hexadecimal 87 for 128 bits (000, 4.1, multx; 01, "Doubling")
unfoldable pub double : ℕ → Bits → Bits
double c w = pick (get_or w 0 false) (xor_b (shiftl w) (bits_n (length w) c)) (shiftl w)

-- n times four bits complemented and four bits kept
unfoldable pub halves_flipped : ℕ → Bits → Bits
halves_flipped zero w = []
halves_flipped (suc n) w = map not (take 4 w) ++ (take 4 (drop 4 w) ++ halves_flipped n (drop 8 w))

-- every second group of four bits complemented, beginning with the first
unfoldable pub every_second : Bits → Bits
every_second w = halves_flipped (length w / 8) w
