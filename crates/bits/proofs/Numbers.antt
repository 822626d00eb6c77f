-- Numbers as bit strings, and back. What is said of parts follows from `bits_n-add`: a string of j + k digits is the j high ones, then
-- the k low ones.
-- Assumes nothing.
use mathlib.Core.Path.{◌≡◌, refl, sym, ap, ap₂, ◌∙◌}
use mathlib.Core.Bool.{Bool, true, false, cond}
use mathlib.Core.List.{[], ◌∷◌, ◌++◌}
use Prim.Native.Nat.{ℕ, zero, suc, ◌+◌, ◌*◌, ◌/◌, ◌%◌, ◌^◌, ◌<◌}
use native.Mathlib.Nat.{zero-add, suc-add, add_comm, mul_assoc, mul_comm, mod-lt, mod-eq_of_lt, add-mul-div_right, mul-add-mod_self_right, pow-suc, pow-succ', mod-one, not-suc-le-zero, le_of_suc-le-suc, zero-lt-suc}
use native.Mathlib.Numerals.{one-add}
use native.Mathlib.Omega.{arith}
use lib.Arith.{digits_lt}
use lib.Pow.{pow_pos, high, split, shr-shr, mod-pow-add}
use lib.ListN.{length, take, drop}
use lib.Seq.{take_at, drop_at}
use Rattle.bits.specs.Str.{Bits, digit, bits_n, num_of}

pub length-bits_n : (k x : ℕ) → length (bits_n k x) ≡ k
unfolding bits_n
length-bits_n zero x = refl
length-bits_n (suc k) x = ap suc (length-bits_n k x)

-- ---- digits

pub two_pos : 0 < 2
two_pos = zero-lt-suc 1

cond-lt : (b : Bool) → cond b 1 0 < 2
cond-lt false = omega arith
cond-lt true = omega arith

digit-cond : (b : Bool) → digit (cond b 1 0) ≡ b
unfolding digit
digit-cond false = refl
digit-cond true = refl

cond-digit : (n : ℕ) → n < 2 → cond (digit n) 1 0 ≡ n
unfolding digit
cond-digit zero h = refl
cond-digit (suc zero) h = refl
cond-digit (suc (suc n)) h = absurd (not-suc-le-zero (le_of_suc-le-suc (le_of_suc-le-suc h)))

-- ---- what stands above the k low digits is not seen

widen : (a k r : ℕ) → a * 2 ^ suc k + r ≡ a * 2 * 2 ^ k + r
widen a k r = ap (λ (m : ℕ). m + r) (ap (λ (m : ℕ). a * m) (pow-suc 2 k ∙ mul_comm (2 ^ k) 2) ∙ sym (mul_assoc a 2 (2 ^ k)))

above-digit : (a k r : ℕ) → (a * 2 ^ suc k + r) / 2 ^ k % 2 ≡ r / 2 ^ k % 2
above-digit a k r =
    ap (λ (m : ℕ). m / 2 ^ k % 2) (widen a k r ∙ add_comm (a * 2 * 2 ^ k) r)
    ∙ ap (λ (m : ℕ). m % 2) (add-mul-div_right r (a * 2) (pow_pos k) ∙ add_comm (r / 2 ^ k) (a * 2))
    ∙ mul-add-mod_self_right a 2 (r / 2 ^ k)

bits_n-above : (k a r : ℕ) → bits_n k (a * 2 ^ k + r) ≡ bits_n k r
unfolding bits_n
bits_n-above zero a r = refl
bits_n-above (suc k) a r =
    ap₂ (λ (b : Bool) (w : Bits). b ∷ w) (ap digit (above-digit a k r)) (ap (bits_n k) (widen a k r) ∙ bits_n-above k (a * 2) r)

pub bits_n-mod : (k x : ℕ) → bits_n k (x % 2 ^ k) ≡ bits_n k x
bits_n-mod k x = sym (bits_n-above k (x / 2 ^ k) (x % 2 ^ k)) ∙ ap (bits_n k) (split x k)

-- ---- the high digits, then the low ones

pub bits_n-add : (j k x : ℕ) → bits_n (j + k) x ≡ bits_n j (x / 2 ^ k) ++ bits_n k x
unfolding bits_n
bits_n-add zero k x = ap (λ (n : ℕ). bits_n n x) (zero-add k)
bits_n-add (suc j) k x =
    ap (λ (n : ℕ). bits_n n x) (suc-add j k)
    ∙ ap₂ (λ (n : ℕ) (w : Bits). digit (n % 2) ∷ w) (ap (λ (n : ℕ). x / 2 ^ n) (add_comm j k) ∙ sym (shr-shr x k j)) (bits_n-add j k x)

pub bits_n-join : (j k a r : ℕ) → r < 2 ^ k → bits_n (j + k) (a * 2 ^ k + r) ≡ bits_n j a ++ bits_n k r
bits_n-join j k a r h =
    bits_n-add j k (a * 2 ^ k + r) ∙ ap₂ (λ (u v : Bits). u ++ v) (ap (bits_n j) (high a k h)) (bits_n-above k a r)

pub take-bits_n : (j k x : ℕ) → take j (bits_n (j + k) x) ≡ bits_n j (x / 2 ^ k)
take-bits_n j k x = ap (take j) (bits_n-add j k x) ∙ take_at (bits_n j (x / 2 ^ k)) (bits_n k x) j (length-bits_n j (x / 2 ^ k))

pub drop-bits_n : (j k x : ℕ) → drop j (bits_n (j + k) x) ≡ bits_n k x
drop-bits_n j k x = ap (drop j) (bits_n-add j k x) ∙ drop_at (bits_n j (x / 2 ^ k)) (bits_n k x) j (length-bits_n j (x / 2 ^ k))

-- ---- numbers below 2 ^ k and strings of k bits are the same thing

pub num_of-lt : (w : Bits) → num_of w < 2 ^ length w
unfolding num_of
num_of-lt [] = zero-lt-suc 0
num_of-lt (b ∷ w) = rw (pow-succ' 2 (length w)) (digits_lt (cond-lt b) (num_of-lt w))

pub num_of-bits_n : (k x : ℕ) → num_of (bits_n k x) ≡ x % 2 ^ k
unfolding num_of bits_n
num_of-bits_n zero x = sym (mod-one x)
num_of-bits_n (suc k) x =
    ap₂ (λ (m n : ℕ). m + n)
    (ap₂ (λ (d l : ℕ). d * 2 ^ l) (cond-digit (x / 2 ^ k % 2) (mod-lt (x / 2 ^ k) two_pos)) (length-bits_n k x))
    (num_of-bits_n k x)
    ∙ sym (mod-pow-add x 1 k) ∙ ap (λ (n : ℕ). x % 2 ^ n) (one-add k)

pub bits_n-num_of : (w : Bits) → bits_n (length w) (num_of w) ≡ w
unfolding num_of bits_n
bits_n-num_of [] = refl
bits_n-num_of (b ∷ w) =
    ap₂ (λ (n : ℕ) (v : Bits). digit (n % 2) ∷ v) (high (cond b 1 0) (length w) (num_of-lt w)) (bits_n-above (length w) (cond b 1 0) (num_of w) ∙ bits_n-num_of w)
    ∙ ap (λ (c : Bool). c ∷ w) (ap digit (mod-eq_of_lt (cond-lt b)) ∙ digit-cond b)

num_of-fit : (k x : ℕ) → x < 2 ^ k → num_of (bits_n k x) ≡ x
num_of-fit k x h = num_of-bits_n k x ∙ mod-eq_of_lt h

pub bits_n-inj : (k x y : ℕ) → x < 2 ^ k → y < 2 ^ k → bits_n k x ≡ bits_n k y → x ≡ y
bits_n-inj k x y hx hy e = sym (num_of-fit k x hx) ∙ ap num_of e ∙ num_of-fit k y hy
