-- What makes two answers one: two results that a contract says in bits are equal numbers, bytes or words. And rows of bytes that are
-- compared: they are the same (`same_row`) exactly where they are equal, and, for bytes, where their bits are.
-- Assumes nothing.
use Prim.Native.Nat.{ℕ, ◌<◌, ◌^◌}
use mathlib.Core.Path.{◌≡◌, refl, sym, ap, ap₂, ◌∙◌}
use mathlib.Core.Bool.{Bool, true, false, false≢true}
use mathlib.Core.List.{List, [], ◌∷◌}
use native.Mathlib.Omega.{arith}
use borrow.Author.Tests.{eqb-true, eq-eqb}
use lib.ListN.{length, get_or}
use mir.Val.{Fits}
use mir.Syntax.{w8, w32}
use Rattle.bits.specs.Str.{Bits, bits_n, bytes_bits, words, same_b, same_row}
use Rattle.bits.proofs.Numbers.{bits_n-inj}
use Rattle.bits.proofs.Strings.{and_both, same_b-true, same_b-false}
use Rattle.bits.proofs.Packed.{length-bytes_bits, bytes_bits-inj, words-inj}

-- two that are the same third
pub same : {A : Type 0} {u v w : A} → u ≡ w → v ≡ w → u ≡ v
same p q = p ∙ sym q

-- numbers that k bits hold
pub same_number : (k : ℕ) {x y : ℕ} {w : Bits} → x < 2 ^ k → y < 2 ^ k → bits_n k x ≡ w → bits_n k y ≡ w → x ≡ y
same_number k {x} {y} {w} h l p q = bits_n-inj k x y h l (p ∙ sym q)

-- n bytes
pub record Bytes (n : ℕ) (xs : List ℕ) : Type 0 where
  pub long : length xs ≡ n
  pub each : (i : ℕ) → Fits w8 (get_or xs i 0)

pub same_bytes : (n : ℕ) {xs ys : List ℕ} {w : Bits} → Bytes n xs → Bytes n ys → bytes_bits xs ≡ w → bytes_bits ys ≡ w → xs ≡ ys
same_bytes n {xs} {ys} {w} b c p q = bytes_bits-inj xs ys (λ i. (b.each i).fits) (λ i. (c.each i).fits) (b.long ∙ sym c.long) (p ∙ sym q)

-- n words
pub record Words (n : ℕ) (xs : List ℕ) : Type 0 where
  pub long : length xs ≡ n
  pub each : (i : ℕ) → Fits w32 (get_or xs i 0)

pub same-words : (n : ℕ) {xs ys : List ℕ} {w : List Bits} → Words n xs → Words n ys → words xs ≡ w → words ys ≡ w → xs ≡ ys
same-words n {xs} {ys} {w} b c p q = words-inj xs ys (λ i. (b.each i).fits) (λ i. (c.each i).fits) (b.long ∙ sym c.long) (p ∙ sym q)

-- ---- rows of bytes that are compared

same_row-refl : (xs : List ℕ) → same_row xs xs ≡ true
unfolding same_row
same_row-refl [] = refl
same_row-refl (x ∷ xs) = rw (eq-eqb x x refl) (same_row-refl xs)

pub same_row-true : (xs ys : List ℕ) → xs ≡ ys → same_row xs ys ≡ true
same_row-true xs ys e = ap (same_row xs) (sym e) ∙ same_row-refl xs

pub same_row-eq : (xs ys : List ℕ) → same_row xs ys ≡ true → xs ≡ ys
unfolding same_row
same_row-eq [] [] e = refl
same_row-eq [] (y ∷ ys) e = absurd (false≢true e)
same_row-eq (x ∷ xs) [] e = absurd (false≢true e)
same_row-eq (x ∷ xs) (y ∷ ys) e = let h = and_both _ _ e in ap₂ (λ (z : ℕ) (zs : List ℕ). z ∷ zs) (eqb-true x y h.0) (same_row-eq xs ys h.1)

-- of bytes, the bits tell it
pub same_b-bytes : (xs ys : List ℕ) → ((i : ℕ) → get_or xs i 0 < 256) → ((i : ℕ) → get_or ys i 0 < 256) → same_b (bytes_bits xs) (bytes_bits ys) ≡ same_row xs ys
same_b-bytes xs ys fx fy = go (same_row xs ys) refl
  where
    go : (b : Bool) → same_row xs ys ≡ b → same_b (bytes_bits xs) (bytes_bits ys) ≡ same_row xs ys
    go true e = same_b-true (bytes_bits xs) (bytes_bits ys) (ap bytes_bits (same_row-eq xs ys e)) ∙ sym e
    go false e =
        same_b-false (bytes_bits xs) (bytes_bits ys)
        (λ h. false≢true (sym e ∙ same_row-true xs ys (bytes_bits-inj xs ys fx fy (omega (arith, length-bytes_bits xs, length-bytes_bits ys, ap length h)) h)))
        ∙ sym e
