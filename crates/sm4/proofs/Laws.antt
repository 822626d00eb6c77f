-- A block is four words of 32 bits, and the code's arrays, written out element by element, are those words; the bytes of a word go
-- through the byte table one by one, and two blocks by xor word by word.
-- Assumes nothing.
use mathlib.Core.Path.{◌≡◌, refl, sym, ap, ap₂, ◌∙◌, subst}
use mathlib.Core.List.{List, [], ◌∷◌, ◌++◌, flat_map, reverse}
use mathlib.Mathlib.Data.List.Basic.{map-reverse_aux}
use Prim.Native.Nat.{ℕ, suc, ◌+◌, ◌*◌, ◌<◌}
use native.Mathlib.Omega.{arith}
use lib.Bits.{bit_xor}
use lib.ListN.{length, take, drop, get_or}
use lib.Seq.{take_at, drop_at, take_all, drop-drop, drop-cons}
use Rattle.std.proofs.lemmas.List.{get_or-map}
use Rattle.bits.specs.Str.{Bits, bits_n, bytes_bits, words, xor_b}
use Rattle.bits.proofs.Numbers.{length-bits_n}
use Rattle.bits.proofs.Strings.{take-xor_b, drop-xor_b, bits_n-xor}
use Rattle.bits.proofs.Packed.{bytes_bits-append, bytes_bits-take, bytes_bits-drop, spread, spread-all}
use Rattle.sm4.specs.Cipher.{Quad, quad, flat, four, Sbox, τ}

-- ---- four words of 32 bits, and a block

pub record Long (X : Quad) : Type 0 where
  pub l0 : length X.x0 ≡ 32
  pub l1 : length X.x1 ≡ 32
  pub l2 : length X.x2 ≡ 32
  pub l3 : length X.x3 ≡ 32

pub quad-flat : (X : Quad) → Long X → quad (flat X) ≡ X
unfolding quad flat
quad-flat X h = λ i. record { x0 = e0 i; x1 = e1 i; x2 = e2 i; x3 = e3 i }
  where
    d1 : drop 32 (flat X) ≡ X.x1 ++ (X.x2 ++ X.x3)
    d1 = drop_at X.x0 (X.x1 ++ (X.x2 ++ X.x3)) 32 h.l0

    d2 : drop 64 (flat X) ≡ X.x2 ++ X.x3
    d2 = sym (drop-drop 32 32 (flat X)) ∙ ap (drop 32) d1 ∙ drop_at X.x1 (X.x2 ++ X.x3) 32 h.l1

    d3 : drop 96 (flat X) ≡ X.x3
    d3 = sym (drop-drop 32 64 (flat X)) ∙ ap (drop 32) d2 ∙ drop_at X.x2 X.x3 32 h.l2

    e0 : take 32 (flat X) ≡ X.x0
    e0 = take_at X.x0 (X.x1 ++ (X.x2 ++ X.x3)) 32 h.l0

    e1 : take 32 (drop 32 (flat X)) ≡ X.x1
    e1 = ap (take 32) d1 ∙ take_at X.x1 (X.x2 ++ X.x3) 32 h.l1

    e2 : take 32 (drop 64 (flat X)) ≡ X.x2
    e2 = ap (take 32) d2 ∙ take_at X.x2 X.x3 32 h.l2

    e3 : take 32 (drop 96 (flat X)) ≡ X.x3
    e3 = ap (take 32) d3 ∙ take_all 32 X.x3 (omega (arith, h.l3))

-- ---- a list's words

pub words-at : (xs : List ℕ) (i : ℕ) → i < length xs → get_or (words xs) i [] ≡ bits_n 32 (get_or xs i 0)
unfolding words
words-at xs i h = get_or-map (bits_n 32) xs i 0 [] h

module _ (xs : List ℕ) (h : length xs ≡ 4) where
  pub four-words : four (words xs)
      ≡ record { x0 = bits_n 32 (get_or xs 0 0); x1 = bits_n 32 (get_or xs 1 0); x2 = bits_n 32 (get_or xs 2 0); x3 = bits_n 32 (get_or xs 3 0) }
  unfolding four
  four-words =
      let h0 = words-at xs 0 (omega arith) in
      let h1 = words-at xs 1 (omega arith) in
      let h2 = words-at xs 2 (omega arith) in
      let h3 = words-at xs 3 (omega arith) in
      λ i. record { x0 = h0 i; x1 = h1 i; x2 = h2 i; x3 = h3 i }

  pub long-words : Long (four (words xs))
  long-words =
      subst Long (sym four-words)
      (record { l0 = length-bits_n 32 _; l1 = length-bits_n 32 _; l2 = length-bits_n 32 _; l3 = length-bits_n 32 _ })

-- ---- four words as sixteen bytes

packed : (a b c d : List ℕ) (X : Quad) → bytes_bits a ≡ X.x0 → bytes_bits b ≡ X.x1 → bytes_bits c ≡ X.x2 → bytes_bits d ≡ X.x3
    → bytes_bits (a ++ (b ++ (c ++ d))) ≡ flat X
unfolding flat
packed a b c d X ha hb hc hd = simp bytes_bits-append (cc)

pub stored : (x a b c d : List ℕ) → length x ≡ 4 → length a ≡ 4 → length b ≡ 4 → length c ≡ 4 → length d ≡ 4
    → bytes_bits a ≡ bits_n 32 (get_or x 0 0) → bytes_bits b ≡ bits_n 32 (get_or x 1 0)
    → bytes_bits c ≡ bits_n 32 (get_or x 2 0) → bytes_bits d ≡ bits_n 32 (get_or x 3 0)
    → bytes_bits
    (get_or a 0 0 ∷ get_or a 1 0 ∷ get_or a 2 0 ∷ get_or a 3 0 ∷ get_or b 0 0 ∷ get_or b 1 0 ∷ get_or b 2 0 ∷ get_or b 3 0
    ∷ get_or c 0 0 ∷ get_or c 1 0 ∷ get_or c 2 0 ∷ get_or c 3 0 ∷ get_or d 0 0 ∷ get_or d 1 0 ∷ get_or d 2 0 ∷ get_or d 3 0 ∷ [])
    ≡ flat (four (words x))
unfolding four spread
stored x a b c d hx ha hb hc hd ea eb ec ed =
    packed (spread 4 0 a) (spread 4 0 b) (spread 4 0 c) (spread 4 0 d) (four (words x))
    (word 0 (omega arith) a ha ea) (word 1 (omega arith) b hb eb) (word 2 (omega arith) c hc ec) (word 3 (omega arith) d hd ed)
  where
    word : (i : ℕ) → i < length x → (a : List ℕ) → length a ≡ 4 → bytes_bits a ≡ bits_n 32 (get_or x i 0)
        → bytes_bits (spread 4 0 a) ≡ get_or (words x) i []
    word i h a ha e = cc (spread-all 4 a ha, words-at x i h)

-- ---- the bytes of a word through the byte table

pub length-Sbox : (b : Bits) → length (Sbox b) ≡ 8
unfolding Sbox
length-Sbox b = length-bits_n 8 _

pub τ-bytes : (a b c d : ℕ) → τ (bytes_bits (a ∷ b ∷ c ∷ d ∷ [])) ≡ Sbox (bits_n 8 a) ++ (Sbox (bits_n 8 b) ++ (Sbox (bits_n 8 c) ++ Sbox (bits_n 8 d)))
unfolding τ bytes_bits flat_map bits_n
τ-bytes a b c d = refl

-- ---- two blocks in words, by xor

abbrev both : Quad → Quad → Quad
both X Y = record { x0 = xor_b X.x0 Y.x0; x1 = xor_b X.x1 Y.x1; x2 = xor_b X.x2 Y.x2; x3 = xor_b X.x3 Y.x3 }

quad-xor_b : (u v : Bits) → quad (xor_b u v) ≡ both (quad u) (quad v)
unfolding quad
quad-xor_b u v = λ i. record { x0 = take-xor_b 32 u v i; x1 = part 32 i; x2 = part 64 i; x3 = part 96 i }
  where
    part : (n : ℕ) → take 32 (drop n (xor_b u v)) ≡ xor_b (take 32 (drop n u)) (take 32 (drop n v))
    part n = ap (take 32) (drop-xor_b n u v) ∙ take-xor_b 32 (drop n u) (drop n v)

pub four_xor : (x y : List ℕ) → length x ≡ 4 → length y ≡ 4
    → four
    (words
    (bit_xor (get_or x 0 0) (get_or y 0 0)
    ∷ bit_xor (get_or x 1 0) (get_or y 1 0)
    ∷ bit_xor (get_or x 2 0) (get_or y 2 0)
    ∷ bit_xor (get_or x 3 0) (get_or y 3 0)
    ∷ []))
    ≡ quad (xor_b (flat (four (words x))) (flat (four (words y))))
unfolding four words
four_xor x y hx hy =
    (λ i. record { x0 = word 0 i; x1 = word 1 i; x2 = word 2 i; x3 = word 3 i })
    ∙ sym (ap₂ both (whole x hx) (whole y hy))
    ∙ sym (quad-xor_b (flat (four (words x))) (flat (four (words y))))
  where
    word : (i : ℕ) → bits_n 32 (bit_xor (get_or x i 0) (get_or y i 0)) ≡ xor_b (bits_n 32 (get_or x i 0)) (bits_n 32 (get_or y i 0))
    word i = bits_n-xor 32 (get_or x i 0) (get_or y i 0)

    whole : (z : List ℕ) (h : length z ≡ 4) → quad (flat (four (words z)))
        ≡ record { x0 = bits_n 32 (get_or z 0 0); x1 = bits_n 32 (get_or z 1 0); x2 = bits_n 32 (get_or z 2 0); x3 = bits_n 32 (get_or z 3 0) }
    whole z h = quad-flat (four (words z)) (long-words z h) ∙ four-words z h

-- ---- four bytes of a part

pub four_bytes : (xs : List ℕ) (k : ℕ) → k + 3 < length xs
    → bytes_bits (get_or xs k 0 ∷ get_or xs (k + 1) 0 ∷ get_or xs (k + 2) 0 ∷ get_or xs (k + 3) 0 ∷ []) ≡ take 32 (drop (8 * k) (bytes_bits xs))
four_bytes xs k h =
    sym (ap (take 32) (sym (bytes_bits-drop k xs)) ∙ sym (bytes_bits-take 4 (drop k xs)) ∙ ap (λ (l : List ℕ). bytes_bits (take 4 l)) four)
  where
    next : (n m : ℕ) → n < length xs → m ≡ suc n → drop n xs ≡ get_or xs n 0 ∷ drop m xs
    next n m h e = drop-cons xs n 0 h ∙ ap (λ (p : ℕ). get_or xs n 0 ∷ drop p xs) (sym e)

    four : drop k xs ≡ get_or xs k 0 ∷ get_or xs (k + 1) 0 ∷ get_or xs (k + 2) 0 ∷ get_or xs (k + 3) 0 ∷ drop (k + 4) xs
    four =
        next k (k + 1) (omega arith) (omega arith)
        ∙ ap (λ (l : List ℕ). get_or xs k 0 ∷ l)
        (next (k + 1) (k + 2) (omega arith) (omega arith)
        ∙ ap (λ (l : List ℕ). get_or xs (k + 1) 0 ∷ l)
        (next (k + 2) (k + 3) (omega arith) (omega arith) ∙ ap (λ (l : List ℕ). get_or xs (k + 2) 0 ∷ l) (next (k + 3) (k + 4) (omega arith) (omega arith))))

-- ---- words backwards

pub words_reverse : (xs : List ℕ) → words (reverse xs) ≡ reverse (words xs)
unfolding words
words_reverse xs = map-reverse_aux (bits_n 32) xs []
