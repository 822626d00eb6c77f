-- The laws of xor, of equality, of rotations and of zeros: length, take, drop, append, and how each is undone.
-- Assumes nothing.
use mathlib.Core.Path.{◌≡◌, refl, sym, ap, ap₂, ◌∙◌}
use mathlib.Core.Bool.{Bool, true, false, ◌&&◌, ◌||◌, not, xor, false≢true}
use mathlib.Core.List.{[], ◌∷◌, ◌++◌, zip_with, append_assoc, append-nil}
use Prim.Native.Nat.{ℕ, zero, suc, ◌+◌, ◌-◌, ◌/◌, ◌%◌, ◌^◌, ◌≤◌, ◌<◌, min}
use native.Mathlib.Nat.{mod-lt, zero-div}
use native.Mathlib.Omega.{arith}
use lib.Bits.{bit_xor, xor_shr, xor_mod}
use lib.ListN.{length, take, drop, get_or, length-append, length-take, length-drop, length-replicate, replicate-append-replicate}
use lib.Seq.{take-append-le, drop-append-le, take-add, drop-drop, take_all}
use Rattle.std.specs.Cmp.{booleans_Decides}
use Rattle.bits.specs.Choice.{pick}
use Rattle.bits.specs.Str.{Bits, digit, bits_n, zeros, xor_b, same_b, rotl, rotr, filled, shiftl, double}
use Rattle.bits.proofs.Lists.{take-replicate, drop-replicate}
use Rattle.bits.proofs.Numbers.{two_pos, length-bits_n}

-- ---- xor of two bits

xor_comm : (b c : Bool) → xor b c ≡ xor c b
unfolding xor
xor_comm false false = refl
xor_comm false true = refl
xor_comm true false = refl
xor_comm true true = refl

xor_assoc : (b c d : Bool) → xor (xor b c) d ≡ xor b (xor c d)
unfolding xor
xor_assoc false false false = refl
xor_assoc false false true = refl
xor_assoc false true false = refl
xor_assoc false true true = refl
xor_assoc true false false = refl
xor_assoc true false true = refl
xor_assoc true true false = refl
xor_assoc true true true = refl

xor-twice : (b c : Bool) → xor (xor b c) c ≡ b
unfolding xor
xor-twice false false = refl
xor-twice false true = refl
xor-twice true false = refl
xor-twice true true = refl

pub xor-false : (b : Bool) → xor b false ≡ b
unfolding xor
xor-false false = refl
xor-false true = refl

pub xor-true : (b : Bool) → xor b true ≡ not b
unfolding xor
xor-true false = refl
xor-true true = refl

-- ---- xor of strings

pub xor_b-comm : (u v : Bits) → xor_b u v ≡ xor_b v u
unfolding xor_b zip_with
xor_b-comm [] [] = refl
xor_b-comm [] (c ∷ v) = refl
xor_b-comm (b ∷ u) [] = refl
xor_b-comm (b ∷ u) (c ∷ v) = ap₂ (λ (d : Bool) (w : Bits). d ∷ w) (xor_comm b c) (xor_b-comm u v)

pub xor_b-assoc : (u v w : Bits) → xor_b (xor_b u v) w ≡ xor_b u (xor_b v w)
unfolding xor_b zip_with
xor_b-assoc [] v w = refl
xor_b-assoc (b ∷ u) [] w = refl
xor_b-assoc (b ∷ u) (c ∷ v) [] = refl
xor_b-assoc (b ∷ u) (c ∷ v) (d ∷ w) = ap₂ (λ (e : Bool) (s : Bits). e ∷ s) (xor_assoc b c d) (xor_b-assoc u v w)

pub length-xor_b-min : (u v : Bits) → length (xor_b u v) ≡ min (length u) (length v)
unfolding xor_b zip_with
length-xor_b-min [] v = omega arith
length-xor_b-min (b ∷ u) [] = omega arith
length-xor_b-min (b ∷ u) (c ∷ v) = omega (arith, length-xor_b-min u v)

pub length-xor_b : (u v : Bits) → length u ≡ length v → length (xor_b u v) ≡ length u
length-xor_b u v h = omega (arith, length-xor_b-min u v)

-- four strings by xor, in another order
pub xor_b-cross : (a b c d : Bits) → xor_b (xor_b a b) (xor_b c d) ≡ xor_b (xor_b a c) (xor_b b d)
xor_b-cross a b c d =
    xor_b-assoc a b (xor_b c d)
    ∙ ap (xor_b a) (sym (xor_b-assoc b c d) ∙ ap (λ (w : Bits). xor_b w d) (xor_b-comm b c) ∙ xor_b-assoc c b d)
    ∙ sym (xor_b-assoc a c (xor_b b d))

-- xor with the same string twice
pub xor_b-twice : (u v : Bits) → length u ≡ length v → xor_b (xor_b u v) v ≡ u
unfolding xor_b zip_with
xor_b-twice [] v h = refl
xor_b-twice (b ∷ u) [] h = absurd (omega arith)
xor_b-twice (b ∷ u) (c ∷ v) h = ap₂ (λ (d : Bool) (w : Bits). d ∷ w) (xor-twice b c) (xor_b-twice u v (omega arith))

pub xor_b-append : (a b c d : Bits) → length a ≡ length c → xor_b (a ++ b) (c ++ d) ≡ xor_b a c ++ xor_b b d
unfolding xor_b zip_with
xor_b-append [] b [] d h = refl
xor_b-append [] b (y ∷ c) d h = absurd (omega arith)
xor_b-append (x ∷ a) b [] d h = absurd (omega arith)
xor_b-append (x ∷ a) b (y ∷ c) d h = ap (λ (w : Bits). xor x y ∷ w) (xor_b-append a b c d (omega arith))

pub take-xor_b : (n : ℕ) (u v : Bits) → take n (xor_b u v) ≡ xor_b (take n u) (take n v)
unfolding xor_b zip_with
take-xor_b zero u v = refl
take-xor_b (suc n) [] v = refl
take-xor_b (suc n) (b ∷ u) [] = refl
take-xor_b (suc n) (b ∷ u) (c ∷ v) = ap (λ (w : Bits). xor b c ∷ w) (take-xor_b n u v)

xor_b-nil : (u : Bits) → xor_b u [] ≡ []
unfolding xor_b zip_with
xor_b-nil [] = refl
xor_b-nil (b ∷ u) = refl

pub drop-xor_b : (n : ℕ) (u v : Bits) → drop n (xor_b u v) ≡ xor_b (drop n u) (drop n v)
unfolding xor_b zip_with
drop-xor_b zero u v = refl
drop-xor_b (suc n) [] v = refl
drop-xor_b (suc n) (b ∷ u) [] = sym (xor_b-nil (drop n u))
drop-xor_b (suc n) (b ∷ u) (c ∷ v) = drop-xor_b n u v

-- ---- xor of numbers

digit-xor-lt : (p q : ℕ) → p < 2 → q < 2 → digit (bit_xor p q) ≡ xor (digit p) (digit q)
unfolding digit xor
digit-xor-lt zero zero hp hq = refl
digit-xor-lt zero (suc zero) hp hq = refl
digit-xor-lt zero (suc (suc q)) hp hq = absurd (omega arith)
digit-xor-lt (suc zero) zero hp hq = refl
digit-xor-lt (suc zero) (suc zero) hp hq = refl
digit-xor-lt (suc zero) (suc (suc q)) hp hq = absurd (omega arith)
digit-xor-lt (suc (suc p)) q hp hq = absurd (omega arith)

digit-xor : (k a b : ℕ) → digit (bit_xor a b / 2 ^ k % 2) ≡ xor (digit (a / 2 ^ k % 2)) (digit (b / 2 ^ k % 2))
digit-xor k a b =
    ap digit (ap (λ (n : ℕ). n % 2) (xor_shr a b k) ∙ xor_mod (a / 2 ^ k) (b / 2 ^ k) 1)
    ∙ digit-xor-lt (a / 2 ^ k % 2) (b / 2 ^ k % 2) (mod-lt (a / 2 ^ k) two_pos) (mod-lt (b / 2 ^ k) two_pos)

pub bits_n-xor : (k a b : ℕ) → bits_n k (bit_xor a b) ≡ xor_b (bits_n k a) (bits_n k b)
unfolding bits_n xor_b zip_with
bits_n-xor zero a b = refl
bits_n-xor (suc k) a b = ap₂ (λ (c : Bool) (w : Bits). c ∷ w) (digit-xor k a b) (bits_n-xor k a b)

-- ---- equality

pub and_both : (a b : Bool) → a && b ≡ true → (a ≡ true) × (b ≡ true)
and_both true b e = (refl, e)
and_both false b e = absurd (false≢true e)

pub neither : (a b : Bool) → a || b ≡ false → (a ≡ false) × (b ≡ false)
neither true b e = absurd (false≢true (sym e))
neither false b e = (refl, e)

same_b-refl : (u : Bits) → same_b u u ≡ true
unfolding same_b
same_b-refl [] = refl
same_b-refl (b ∷ u) = rw ((booleans_Decides b b).1 refl) (same_b-refl u)

pub same_b-true : (u v : Bits) → u ≡ v → same_b u v ≡ true
same_b-true u v e = ap (same_b u) (sym e) ∙ same_b-refl u

pub same_b-eq : (u v : Bits) → same_b u v ≡ true → u ≡ v
unfolding same_b
same_b-eq [] [] e = refl
same_b-eq [] (c ∷ v) e = absurd (false≢true e)
same_b-eq (b ∷ u) [] e = absurd (false≢true e)
same_b-eq (b ∷ u) (c ∷ v) e = let h = and_both _ _ e in ap₂ (λ (d : Bool) (w : Bits). d ∷ w) ((booleans_Decides b c).0 h.0) (same_b-eq u v h.1)

pub same_b-false : (u v : Bits) → (u ≡ v → ⊥) → same_b u v ≡ false
same_b-false u v n = go (same_b u v) refl
  where
    go : (b : Bool) → same_b u v ≡ b → same_b u v ≡ false
    go true e = absurd (n (same_b-eq u v e))
    go false e = e

-- ---- zeros

pub length-zeros : (n : ℕ) → length (zeros n) ≡ n
unfolding zeros
length-zeros n = length-replicate n false

pub zeros-add : (n k : ℕ) → zeros (n + k) ≡ zeros n ++ zeros k
unfolding zeros
zeros-add n k = sym (replicate-append-replicate n k false)

pub take-zeros : (n k : ℕ) → n ≤ k → take n (zeros k) ≡ zeros n
unfolding zeros
take-zeros = take-replicate false

pub drop-zeros : (n k : ℕ) → n ≤ k → drop n (zeros k) ≡ zeros (k - n)
unfolding zeros
drop-zeros = drop-replicate false

pub bits_n-zero : (k : ℕ) → bits_n k 0 ≡ zeros k
unfolding bits_n zeros digit
bits_n-zero zero = refl
bits_n-zero (suc k) = ap₂ (λ (b : Bool) (w : Bits). b ∷ w) (low k) (bits_n-zero k)
  where
    low : (k : ℕ) → digit (0 / 2 ^ k % 2) ≡ false
    low k = ap (λ (n : ℕ). digit (n % 2)) (zero-div (2 ^ k))

pub xor_b-zeros : (w : Bits) → xor_b w (zeros (length w)) ≡ w
unfolding xor_b zip_with zeros
xor_b-zeros [] = refl
xor_b-zeros (b ∷ w) = ap₂ (λ (c : Bool) (v : Bits). c ∷ v) (xor-false b) (xor_b-zeros w)

pub length-filled : (n : ℕ) (w : Bits) → length w ≤ n → length (filled n w) ≡ n
unfolding filled
length-filled n w h = omega (arith, length-append w (zeros (n - length w)), length-zeros (n - length w))

-- where there are n bits already, nothing is filled up
pub filled-all : (n : ℕ) (w : Bits) → length w ≡ n → filled n w ≡ w
unfolding filled zeros
filled-all n w h = let none : n - length w ≡ 0 = omega arith in ap (λ (k : ℕ). w ++ zeros k) none ∙ append-nil w

-- two strings, each filled with zeros where the other stands
pub xor_b-beside : (x y : Bits) (m n : ℕ) → length x ≡ m → length y ≡ n → xor_b (x ++ zeros n) (zeros m ++ y) ≡ x ++ y
xor_b-beside x y m n hx hy =
    xor_b-append x (zeros n) (zeros m) y (hx ∙ sym (length-zeros m))
    ∙ ap₂ (λ (u v : Bits). u ++ v)
    (ap (λ (k : ℕ). xor_b x (zeros k)) (sym hx) ∙ xor_b-zeros x)
    (xor_b-comm (zeros n) y ∙ ap (λ (k : ℕ). xor_b y (zeros k)) (sym hy) ∙ xor_b-zeros y)

-- ---- doubling

pub length-shiftl : (w : Bits) → 0 < length w → length (shiftl w) ≡ length w
unfolding shiftl
length-shiftl w h = omega (arith, length-append (drop 1 w) (zeros 1), length-drop 1 w, length-zeros 1)

pub length-double : (c : ℕ) (w : Bits) → 0 < length w → length (double c w) ≡ length w
unfolding double pick
length-double c w h = go (get_or w 0 false)
  where
    go : (b : Bool) → length (pick b (xor_b (shiftl w) (bits_n (length w) c)) (shiftl w)) ≡ length w
    go true = length-xor_b (shiftl w) (bits_n (length w) c) (length-shiftl w h ∙ sym (length-bits_n (length w) c)) ∙ length-shiftl w h
    go false = length-shiftl w h

-- ---- rotations

pub length-rotl : (k : ℕ) (w : Bits) → length (rotl k w) ≡ length w
unfolding rotl
length-rotl k w = omega (arith, length-append (drop k w) (take k w), length-drop k w, length-take k w)

pub length-rotr : (k : ℕ) (w : Bits) → length (rotr k w) ≡ length w
unfolding rotr rotl
length-rotr k w = length-rotl (length w - k) w

pub rotl-xor_b : (k : ℕ) (u v : Bits) → length u ≡ length v → rotl k (xor_b u v) ≡ xor_b (rotl k u) (rotl k v)
unfolding rotl
rotl-xor_b k u v h =
    ap₂ (λ (x y : Bits). x ++ y) (drop-xor_b k u v) (take-xor_b k u v)
    ∙ sym (xor_b-append (drop k u) (take k u) (drop k v) (take k v) (omega (arith, length-drop k u, length-drop k v)))

-- two rotations are one
pub rotl-rotl : (i j : ℕ) (w : Bits) → j + i ≤ length w → rotl i (rotl j w) ≡ rotl (j + i) w
unfolding rotl
rotl-rotl i j w h =
    ap₂ (λ (u v : Bits). u ++ v) (drop-append-le i (drop j w) (take j w) fits) (take-append-le i (drop j w) (take j w) fits)
    ∙ append_assoc (drop i (drop j w)) (take j w) (take i (drop j w))
    ∙ ap₂ (λ (u v : Bits). u ++ v) (drop-drop i j w) (sym (take-add j i w))
  where
    fits : i ≤ length (drop j w)
    fits = omega (arith, length-drop j w)

rotl-all : (w : Bits) (n : ℕ) → n ≡ length w → rotl n w ≡ w
unfolding rotl
rotl-all w n h = ap (λ (u : Bits). u ++ take n w) (none (drop n w) (omega (arith, length-drop n w))) ∙ take_all n w (omega arith)
  where
    none : (u : Bits) → length u ≡ 0 → u ≡ []
    none [] e = refl
    none (b ∷ u) e = absurd (omega arith)

rotr-is : (k : ℕ) (w : Bits) → rotr k w ≡ rotl (length w - k) w
unfolding rotr rotl
rotr-is k w = refl

-- each rotation undoes the other
pub rotr-rotl : (k : ℕ) (w : Bits) → k ≤ length w → rotr k (rotl k w) ≡ w
rotr-rotl k w h =
    rotr-is k (rotl k w) ∙ ap (λ (n : ℕ). rotl (n - k) (rotl k w)) (length-rotl k w)
    ∙ rotl-rotl (length w - k) k w (omega arith) ∙ rotl-all w (k + (length w - k)) (omega arith)

pub rotl-rotr : (k : ℕ) (w : Bits) → k ≤ length w → rotl k (rotr k w) ≡ w
rotl-rotr k w h =
    ap (rotl k) (rotr-is k w) ∙ rotl-rotl k (length w - k) w (omega arith) ∙ rotl-all w (length w - k + k) (omega arith)
