-- What shifts, masks and ors of numbers do to their bits, for every width. A shift by s is laws at a sum r + k of widths,
-- carried to a width w by r + (w - r) ≡ w.
-- Assumes nothing.
use mathlib.Core.Path.{◌≡◌, refl, sym, ap, ap₂, ◌∙◌, subst}
use mathlib.Core.Bool.{Bool, true, false}
use mathlib.Core.List.{List, [], ◌∷◌, ◌++◌, flat_map, append-nil}
use Prim.Native.Nat.{ℕ, zero, suc, ◌+◌, ◌-◌, ◌*◌, ◌/◌, ◌%◌, ◌^◌, ◌≤◌, ◌<◌}
use native.Mathlib.Nat.{add-zero, add_comm, mul-mod_left, sub-zero, mul_assoc, add-mul, div-one, div-eq_of_lt, pow-suc}
use native.Mathlib.Omega.{arith}
use borrow.Author.Tests.{ltb-true, ltb-false}
use lib.Bits.{bit_or, or_shifted, or_zero_l}
use lib.Dec.{ltb}
use lib.Pow.{shl-shr, pow-add, shr_lt, mod-pow-add}
use lib.ListN.{length, take, drop, get_or, drop_of_length-le}
use lib.Seq.{take_all, take-suc}
use Rattle.std.specs.Prelude.{if◌then◌else◌, slice_index}
use Rattle.std.specs.Int.{byte_at, byte_worth, bytes_high_first, sum_through}
use Rattle.bits.specs.Str.{Bits, bits_n, bytes_bits, rotl}
use Rattle.bits.proofs.Numbers.{length-bits_n, bits_n-mod, bits_n-add, bits_n-join, take-bits_n, drop-bits_n}
use Rattle.bits.proofs.Packed.{bytes_bits-append}

-- ---- two numbers of w digits side by side, and the w digits that stand s further in

shl-low : (s k x : ℕ) → x * 2 ^ s % 2 ^ (s + k) ≡ x % 2 ^ k * 2 ^ s
shl-low s k x =
    ap (λ (n : ℕ). x * 2 ^ s % 2 ^ n) (add_comm s k) ∙ mod-pow-add (x * 2 ^ s) k s
    ∙ ap₂ (λ (m n : ℕ). m % 2 ^ k * 2 ^ s + n) (shl-shr x s) (mul-mod_left x (2 ^ s))
    ∙ add-zero (x % 2 ^ k * 2 ^ s)

funnel-sum : (s k x y : ℕ) → y < 2 ^ (s + k)
    → bits_n (s + k) (bit_or (x * 2 ^ s % 2 ^ (s + k)) (y / 2 ^ k)) ≡ drop s (bits_n (s + k) x) ++ take s (bits_n (s + k) y)
funnel-sum s k x y hy =
    ap (bits_n (s + k)) (ap (λ (n : ℕ). bit_or n (y / 2 ^ k)) (shl-low s k x) ∙ or_shifted (x % 2 ^ k) s (y / 2 ^ k) (shr_lt s k hy))
    ∙ ap (λ (n : ℕ). bits_n n (x % 2 ^ k * 2 ^ s + y / 2 ^ k)) (add_comm s k)
    ∙ bits_n-join k s (x % 2 ^ k) (y / 2 ^ k) (shr_lt s k hy)
    ∙ ap₂ (λ (u v : Bits). u ++ v) (bits_n-mod k x ∙ sym (drop-bits_n s k x)) (sym (take-bits_n s k y))

pub funnel-shifts : (w s x y : ℕ) → s ≤ w → y < 2 ^ w
    → bits_n w (bit_or (x * 2 ^ s % 2 ^ w) (y / 2 ^ (w - s))) ≡ drop s (bits_n w x) ++ take s (bits_n w y)
funnel-shifts w s x y hs hy =
    subst (λ (n : ℕ). y < 2 ^ n → bits_n n (bit_or (x * 2 ^ s % 2 ^ n) (y / 2 ^ (w - s))) ≡ drop s (bits_n n x) ++ take s (bits_n n y))
    (whole w s hs) (funnel-sum s (w - s) x y) hy
  where
    whole : (w s : ℕ) → s ≤ w → s + (w - s) ≡ w
    whole w s hs = omega arith

-- the same with shifts that give 0 from w on; past w the second is all
pub funnel-unbounded : (w s x y : ℕ) → 0 < w → y < 2 ^ w
    → bits_n w (bit_or (if ltb s w then x * 2 ^ s % 2 ^ w else 0) (if ltb (w - s) w then y / 2 ^ (w - s) else 0)) ≡ drop s (bits_n w x) ++ take s (bits_n w y)
funnel-unbounded w s x y some hy = go (ltb s w) (ltb (w - s) w) refl refl
  where
    go : (b c : Bool) → ltb s w ≡ b → ltb (w - s) w ≡ c
        → bits_n w (bit_or (if b then x * 2 ^ s % 2 ^ w else 0) (if c then y / 2 ^ (w - s) else 0)) ≡ drop s (bits_n w x) ++ take s (bits_n w y)
    go true true e f = funnel-shifts w s x y (omega (arith, ltb-true)) hy
    go true false e f =
        let whole : w ≡ w - s = omega (arith, ltb-true s w e, ltb-false (w - s) w f) in
        ap (λ (n : ℕ). bits_n w (bit_or (x * 2 ^ s % 2 ^ w) n)) (sym (ap (λ (n : ℕ). y / 2 ^ n) (sym whole) ∙ div-eq_of_lt hy))
        ∙ funnel-shifts w s x y (omega (arith, ltb-true s w e)) hy
    go false true e f =
        let past = ltb-false s w e in
        let none : w - s ≡ 0 = omega arith in
        ap (bits_n w) (or_zero_l (y / 2 ^ (w - s)) ∙ ap (λ (n : ℕ). y / 2 ^ n) none ∙ div-one y)
        ∙ sym (ap₂ (λ (u v : Bits). u ++ v) (drop_of_length-le (bits_n w x) {i = s} (omega (arith, length-bits_n w x))) (take_all s (bits_n w y) (omega (arith, length-bits_n w y))))
    go false false e f = absurd (omega (arith, ltb-false s w e, ltb-false (w - s) w f))

-- a rotation is a number beside itself
pub rotl-shifts : (w r x : ℕ) → r ≤ w → x < 2 ^ w → bits_n w (bit_or (x * 2 ^ r % 2 ^ w) (x / 2 ^ (w - r))) ≡ rotl r (bits_n w x)
unfolding rotl
rotl-shifts w r x hr h = funnel-shifts w r x x hr h

-- ---- the bytes of a number, the highest first

bytes_pow : (k : ℕ) → 256 ^ k ≡ 2 ^ (8 * k)
bytes_pow zero = refl
bytes_pow (suc k) =
    let more : 8 * suc k ≡ 8 * k + 8 = omega arith in
    pow-suc 256 k ∙ ap (λ (n : ℕ). n * 256) (bytes_pow k) ∙ sym (ap (λ (n : ℕ). 2 ^ n) more ∙ pow-add 2 (8 * k) 8)

byte_at-bits : (k n : ℕ) → bits_n 8 (byte_at k n) ≡ bits_n 8 (n / 2 ^ (8 * k))
byte_at-bits zero n = bits_n-mod 8 n ∙ ap (bits_n 8) (sym (div-one n))
byte_at-bits (suc k) n = bits_n-mod 8 (n / 256 ^ suc k) ∙ ap (λ (m : ℕ). bits_n 8 (n / m)) (bytes_pow (suc k))

pub high_first-bits : (k n : ℕ) → bytes_bits (bytes_high_first k n) ≡ bits_n (8 * k) n
unfolding bytes_bits flat_map bits_n
high_first-bits zero n = refl
high_first-bits (suc k) n =
    let more : 8 + 8 * k ≡ 8 * suc k = omega arith in
    ap₂ (λ (u v : Bits). u ++ v) (byte_at-bits k n) (high_first-bits k n) ∙ sym (bits_n-add 8 (8 * k) n) ∙ ap (λ (m : ℕ). bits_n m n) more

-- the number that k + 1 bytes are, as std adds it up
abbrev high_sum : ℕ → List ℕ → ℕ → ℕ
high_sum k xs n = sum_through (λ i. byte_worth (k - i) (slice_index xs i)) n

worth_up : (j x : ℕ) → byte_worth (suc j) x ≡ byte_worth j x * 256
worth_up zero x = refl
worth_up (suc j) x = ap (λ (m : ℕ). x * m) (pow-suc 256 (suc j)) ∙ sym (mul_assoc x (256 ^ suc j) 256)

high_sum-up : (k : ℕ) (xs : List ℕ) (n : ℕ) → n ≤ k → high_sum (suc k) xs n ≡ high_sum k xs n * 256
high_sum-up k xs zero h = ap (λ (j : ℕ). byte_worth j (slice_index xs 0)) (sub-zero (suc k)) ∙ worth_up k (slice_index xs 0) ∙ ap (λ (j : ℕ). byte_worth j (slice_index xs 0) * 256) (sym (sub-zero k))
high_sum-up k xs (suc n) h =
    let here : suc k - suc n ≡ suc (k - suc n) = omega arith in
    ap₂ (λ (s t : ℕ). s + t) (high_sum-up k xs n (omega arith)) (ap (λ (j : ℕ). byte_worth j (slice_index xs (suc n))) here ∙ worth_up (k - suc n) (slice_index xs (suc n)))
    ∙ sym (add-mul (high_sum k xs n) (byte_worth (k - suc n) (slice_index xs (suc n))) 256)

high_sum-bits : (k : ℕ) (xs : List ℕ) → k < length xs → ((i : ℕ) → get_or xs i 0 < 256) → bits_n (8 * suc k) (high_sum k xs k) ≡ bytes_bits (take (suc k) xs)
unfolding bytes_bits flat_map
high_sum-bits zero [] h f = absurd (omega arith)
high_sum-bits zero (x ∷ xs) h f = sym (append-nil (bits_n 8 x))
high_sum-bits (suc k) xs h f =
    let more : 8 * suc (suc k) ≡ 8 * suc k + 8 = omega arith in
    let last : suc k - suc k ≡ 0 = omega arith in
    ap₂ (λ (j s : ℕ). bits_n (8 * suc (suc k)) (s + byte_worth j (slice_index xs (suc k)))) last (high_sum-up k xs k (omega arith))
    ∙ ap (λ (j : ℕ). bits_n j (high_sum k xs k * 256 + slice_index xs (suc k))) more
    ∙ bits_n-join (8 * suc k) 8 (high_sum k xs k) (slice_index xs (suc k)) (f (suc k))
    ∙ ap₂ (λ (u v : Bits). u ++ v) (high_sum-bits k xs (omega arith) f) (sym (append-nil (bits_n 8 (slice_index xs (suc k)))))
    ∙ sym (ap bytes_bits (take-suc xs (suc k) 0 h) ∙ bytes_bits-append (take (suc k) xs) (slice_index xs (suc k) ∷ []))

pub from_high-bits : (k : ℕ) (xs : List ℕ) → length xs ≡ suc k → ((i : ℕ) → get_or xs i 0 < 256)
    → bits_n (8 * suc k) (sum_through (λ i. byte_worth (k - i) (slice_index xs i)) k) ≡ bytes_bits xs
from_high-bits k xs h f = high_sum-bits k xs (omega arith) f ∙ ap bytes_bits (take_all (suc k) xs (omega arith))
