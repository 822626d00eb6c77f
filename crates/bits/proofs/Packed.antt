-- Lists of numbers as strings: a part of the list is a part of the string. Stated once over what each element gives, so for
-- every width; bytes are the case of eight bits, words that of 32.
-- Assumes nothing.
use mathlib.Core.Path.{◌≡◌, refl, sym, ap, ap₂, ◌∙◌}
use mathlib.Core.List.{List, [], ◌∷◌, ◌++◌, map, flat_map, append_assoc, append-nil, map-append}
use Prim.Native.Nat.{ℕ, zero, suc, ◌+◌, ◌*◌, ◌^◌, ◌<◌}
use native.Mathlib.Nat.{mul-suc, mul-zero}
use native.Mathlib.Numerals.{add-one}
use native.Mathlib.Omega.{arith}
use lib.ListN.{length, take, drop, get_or, set, length-append, drop_of_length-le}
use lib.Seq.{take_at, drop_at, take-suc-set, drop-cons, take-nil, drop-nil, take-append-add, drop-append-add}
use Rattle.bits.specs.Str.{Bits, bits_n, bytes_bits, words}
use Rattle.bits.proofs.Numbers.{length-bits_n, bits_n-inj}

-- ---- k elements for each

module _ {A B : Type 0} (f : A → List B) where
  flat_map-append : (xs ys : List A) → flat_map f (xs ++ ys) ≡ flat_map f xs ++ flat_map f ys
  unfolding flat_map
  flat_map-append [] ys = refl
  flat_map-append (x ∷ xs) ys = ap (λ (w : List B). f x ++ w) (flat_map-append xs ys) ∙ sym (append_assoc (f x) (flat_map f xs) (flat_map f ys))

module _ {A B : Type 0} (f : A → List B) (k : ℕ) (long : (x : A) → length (f x) ≡ k) where
  length-flat_map : (xs : List A) → length (flat_map f xs) ≡ k * length xs
  unfolding flat_map
  length-flat_map [] = sym (mul-zero k)
  length-flat_map (x ∷ xs) = omega (arith, length-append (f x) (flat_map f xs), long x, length-flat_map xs, mul-suc k (length xs))

  next : (w : List B) (n : ℕ) → length w ≡ k → k * suc n ≡ length w + k * n
  next w n h = omega (arith, mul-suc k n)

  flat_map-take : (n : ℕ) (xs : List A) → flat_map f (take n xs) ≡ take (k * n) (flat_map f xs)
  unfolding flat_map
  flat_map-take zero xs = sym (ap (λ (m : ℕ). take m (flat_map f xs)) (mul-zero k))
  flat_map-take (suc n) [] = sym (take-nil (k * suc n))
  flat_map-take (suc n) (x ∷ xs) =
      ap (λ (w : List B). f x ++ w) (flat_map-take n xs)
      ∙ sym (ap (λ (m : ℕ). take m (f x ++ flat_map f xs)) (next (f x) n (long x)) ∙ take-append-add (f x) (flat_map f xs) (k * n))

  flat_map-drop : (n : ℕ) (xs : List A) → flat_map f (drop n xs) ≡ drop (k * n) (flat_map f xs)
  unfolding flat_map
  flat_map-drop zero xs = sym (ap (λ (m : ℕ). drop m (flat_map f xs)) (mul-zero k))
  flat_map-drop (suc n) [] = sym (drop-nil (k * suc n))
  flat_map-drop (suc n) (x ∷ xs) =
      flat_map-drop n xs
      ∙ sym (ap (λ (m : ℕ). drop m (f x ++ flat_map f xs)) (next (f x) n (long x)) ∙ drop-append-add (f x) (flat_map f xs) (k * n))

  -- equal strings of equally many elements are made of equal parts
  flat_map-parts : (xs ys : List A) → length xs ≡ length ys → flat_map f xs ≡ flat_map f ys → map f xs ≡ map f ys
  unfolding flat_map
  flat_map-parts [] [] h e = refl
  flat_map-parts [] (y ∷ ys) h e = absurd (omega arith)
  flat_map-parts (x ∷ xs) [] h e = absurd (omega arith)
  flat_map-parts (x ∷ xs) (y ∷ ys) h e =
      ap₂ (λ (u : List B) (r : List (List B)). u ∷ r)
      (sym (take_at (f x) (flat_map f xs) k (long x)) ∙ ap (take k) e ∙ take_at (f y) (flat_map f ys) k (long y))
      (flat_map-parts xs ys (omega arith) (sym (drop_at (f x) (flat_map f xs) k (long x)) ∙ ap (drop k) e ∙ drop_at (f y) (flat_map f ys) k (long y)))

-- ---- numbers that k bits hold are what their bits say

bits_n-map-inj : (k : ℕ) (xs ys : List ℕ) → ((i : ℕ) → get_or xs i 0 < 2 ^ k) → ((i : ℕ) → get_or ys i 0 < 2 ^ k) → length xs ≡ length ys
    → map (bits_n k) xs ≡ map (bits_n k) ys → xs ≡ ys
bits_n-map-inj k [] [] hx hy h e = refl
bits_n-map-inj k [] (y ∷ ys) hx hy h e = absurd (omega arith)
bits_n-map-inj k (x ∷ xs) [] hx hy h e = absurd (omega arith)
bits_n-map-inj k (x ∷ xs) (y ∷ ys) hx hy h e =
    ap₂ (λ (m : ℕ) (r : List ℕ). m ∷ r)
    (bits_n-inj k x y (hx 0) (hy 0) (ap (λ (w : List Bits). get_or w 0 []) e))
    (bits_n-map-inj k xs ys (λ i. hx (suc i)) (λ i. hy (suc i)) (omega arith) (ap (λ (w : List Bits). drop 1 w) e))

-- ---- bytes

pub bytes_bits-append : (xs ys : List ℕ) → bytes_bits (xs ++ ys) ≡ bytes_bits xs ++ bytes_bits ys
unfolding bytes_bits
bytes_bits-append = flat_map-append (bits_n 8)

pub length-bytes_bits : (xs : List ℕ) → length (bytes_bits xs) ≡ 8 * length xs
unfolding bytes_bits
length-bytes_bits = length-flat_map (bits_n 8) 8 (length-bits_n 8)

pub bytes_bits-take : (n : ℕ) (xs : List ℕ) → bytes_bits (take n xs) ≡ take (8 * n) (bytes_bits xs)
unfolding bytes_bits
bytes_bits-take = flat_map-take (bits_n 8) 8 (length-bits_n 8)

pub bytes_bits-drop : (n : ℕ) (xs : List ℕ) → bytes_bits (drop n xs) ≡ drop (8 * n) (bytes_bits xs)
unfolding bytes_bits
bytes_bits-drop = flat_map-drop (bits_n 8) 8 (length-bits_n 8)

pub bytes_bits-inj : (xs ys : List ℕ) → ((i : ℕ) → get_or xs i 0 < 256) → ((i : ℕ) → get_or ys i 0 < 256) → length xs ≡ length ys
    → bytes_bits xs ≡ bytes_bits ys → xs ≡ ys
unfolding bytes_bits
bytes_bits-inj xs ys hx hy h e = bits_n-map-inj 8 xs ys hx hy h (flat_map-parts (bits_n 8) 8 (length-bits_n 8) xs ys h e)

-- the ith byte
pub bytes_bits-at : (xs : List ℕ) (i : ℕ) → i < length xs → take 8 (drop (8 * i) (bytes_bits xs)) ≡ bits_n 8 (get_or xs i 0)
unfolding bytes_bits flat_map
bytes_bits-at xs i h =
    ap (take 8) (sym (bytes_bits-drop i xs) ∙ ap bytes_bits (drop-cons xs i 0 h))
    ∙ take_at (bits_n 8 (get_or xs i 0)) (bytes_bits (drop (suc i) xs)) 8 (length-bits_n 8 (get_or xs i 0))

pub bytes_bits-set : (xs : List ℕ) (i v : ℕ) → i < length xs → bytes_bits (take (i + 1) (set xs i v)) ≡ bytes_bits (take i xs) ++ bits_n 8 v
unfolding bytes_bits flat_map
bytes_bits-set xs i v h =
    ap bytes_bits (ap (λ (n : ℕ). take n (set xs i v)) (add-one i) ∙ take-suc-set xs i v h) ∙ bytes_bits-append (take i xs) (v ∷ [])
    ∙ ap (λ (w : Bits). bytes_bits (take i xs) ++ w) (append-nil (bits_n 8 v))

-- ---- words

pub words-inj : (xs ys : List ℕ) → ((i : ℕ) → get_or xs i 0 < 2 ^ 32) → ((i : ℕ) → get_or ys i 0 < 2 ^ 32) → length xs ≡ length ys
    → words xs ≡ words ys → xs ≡ ys
unfolding words
words-inj = bits_n-map-inj 32

pub words-set : (xs : List ℕ) (i v : ℕ) → i < length xs → words (take (i + 1) (set xs i v)) ≡ words (take i xs) ++ (bits_n 32 v ∷ [])
unfolding words
words-set xs i v h =
    ap (map (bits_n 32)) (ap (λ (n : ℕ). take n (set xs i v)) (add-one i) ∙ take-suc-set xs i v h) ∙ map-append (bits_n 32) (take i xs) (v ∷ [])

-- ---- the n elements of a list from the ith on, each written out: how an array looks that the code makes element by element

unfoldable pub spread : ℕ → ℕ → List ℕ → List ℕ
spread zero i xs = []
spread (suc n) i xs = get_or xs i 0 ∷ spread n (suc i) xs

spread-drop : (n i : ℕ) (xs : List ℕ) → i + n ≡ length xs → spread n i xs ≡ drop i xs
unfolding spread
spread-drop zero i xs h = sym (drop_of_length-le xs {i = i} (omega arith))
spread-drop (suc n) i xs h = ap (λ (t : List ℕ). get_or xs i 0 ∷ t) (spread-drop n (suc i) xs (omega arith)) ∙ sym (drop-cons xs i 0 (omega arith))

pub spread-all : (n : ℕ) (xs : List ℕ) → length xs ≡ n → spread n 0 xs ≡ xs
spread-all n xs h = spread-drop n 0 xs (omega arith)
