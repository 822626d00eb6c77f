-- Four look-ups are T, or T': the tables hold what the rule says, and since L of an xor is the xor of both L, and L' likewise, what the
-- four bytes of a word add makes T or T' of it.
-- Assumes nothing.
use mathlib.Core.Path.{◌≡◌, refl, sym, ap, ap₂, ◌∙◌}
use mathlib.Core.List.{List, [], ◌∷◌, ◌++◌, zip_with, append_assoc, append-nil}
use Prim.Native.Nat.{ℕ, zero, suc, ◌+◌, ◌-◌, ◌*◌, ◌%◌, ◌<◌}
use native.Mathlib.Omega.{arith}
use lib.ListN.{length, get_or, length-append, get_or-append}
use lib.Seq.{get_or-append-add}
use Rattle.bits.specs.Str.{Bits, bits_n, num_of, bytes_bits, zeros, xor_b, rotl}
use Rattle.bits.proofs.Numbers.{bits_n-num_of}
use Rattle.bits.proofs.Strings.{length-xor_b, length-zeros, xor_b-beside}
use Rattle.bits.proofs.Packed.{spread, spread-all}
use Rattle.sm4.specs.Cipher.{Sbox, L, L'}
use Rattle.sm4.specs.Table.{placed, share, entry, entries, table, wide}
use Rattle.sm4.specs.Mixing.{Linear, Mixes, mixes-T, mixes-T'}
use Rattle.sm4.proofs.Listed.{length-listed, listed}
use Rattle.sm4.proofs.Laws.{length-Sbox, τ-bytes}

-- ---- a word from its four bytes, each in its place

in-places : (a b c d : Bits) → length a ≡ 8 → length b ≡ 8 → length c ≡ 8 → length d ≡ 8
    → xor_b (xor_b (placed 0 a) (placed 1 b)) (xor_b (placed 2 c) (placed 3 d)) ≡ a ++ (b ++ (c ++ d))
unfolding placed zeros
in-places a b c d ha hb hc hd =
    ap₂ xor_b (high ∙ sym (append_assoc a b (zeros 16))) low
    ∙ xor_b-beside (a ++ b) (c ++ d) 16 16 (omega (arith, length-append a b)) (omega (arith, length-append c d))
    ∙ append_assoc a b (c ++ d)
  where
    high : xor_b (placed 0 a) (placed 1 b) ≡ a ++ (b ++ zeros 16)
    high = xor_b-beside a (b ++ zeros 16) 8 24 ha (omega (arith, length-append b (zeros 16), length-zeros 16))

    low : xor_b (placed 2 c) (placed 3 d) ≡ zeros 16 ++ (c ++ d)
    low =
        ap (λ (w : Bits). xor_b (placed 2 c) (zeros 24 ++ w)) (append-nil d)
        ∙ xor_b-beside (zeros 16 ++ c) d 24 8 (omega (arith, length-append (zeros 16) c, length-zeros 16)) hd

-- ---- what the four bytes of a word add

length-placed : (j x : ℕ) → j < 4 → length (placed j (Sbox (bits_n 8 x))) ≡ 32
unfolding placed
length-placed j x h =
    let b = Sbox (bits_n 8 x) in
    omega (arith, length-append (zeros (8 * j)) (b ++ zeros (24 - 8 * j)), length-append b (zeros (24 - 8 * j)), length-zeros (8 * j), length-zeros (24 - 8 * j), length-Sbox (bits_n 8 x))

in_four : {l t : Bits → Bits} → Mixes l t → (a b c d : ℕ)
    → xor_b (xor_b (share l 0 a) (share l 1 b)) (xor_b (share l 2 c) (share l 3 d)) ≡ t (bytes_bits (a ∷ b ∷ c ∷ d ∷ []))
unfolding share
in_four {l} {t} m a b c d =
    let of_xor = m.linear.of_xor in
    let h0 = length-placed 0 a (omega arith) in
    let h1 = length-placed 1 b (omega arith) in
    let h2 = length-placed 2 c (omega arith) in
    let h3 = length-placed 3 d (omega arith) in
    let high = xor_b (placed 0 (Sbox (bits_n 8 a))) (placed 1 (Sbox (bits_n 8 b))) in
    let low = xor_b (placed 2 (Sbox (bits_n 8 c))) (placed 3 (Sbox (bits_n 8 d))) in
    let h01 = length-xor_b _ _ (h0 ∙ sym h1) ∙ h0 in
    let h23 = length-xor_b _ _ (h2 ∙ sym h3) ∙ h2 in
    ap₂ xor_b (sym (of_xor _ _ (h0 ∙ sym h1))) (sym (of_xor _ _ (h2 ∙ sym h3)))
    ∙ sym (of_xor high low (h01 ∙ sym h23))
    ∙ ap l (in-places (Sbox (bits_n 8 a)) (Sbox (bits_n 8 b)) (Sbox (bits_n 8 c)) (Sbox (bits_n 8 d)) (length-Sbox _) (length-Sbox _) (length-Sbox _) (length-Sbox _) ∙ sym (τ-bytes a b c d))
    ∙ m.whole (bytes_bits (a ∷ b ∷ c ∷ d ∷ []))

-- what the four bytes of a word add, each looked up
pub all-added : {l t : Bits → Bits} → Mixes l t → (b : List ℕ) → length b ≡ 4 → (v w x y : ℕ)
    → bits_n 32 v ≡ share l 0 (get_or b 0 0) → bits_n 32 w ≡ share l 1 (get_or b 1 0)
    → bits_n 32 x ≡ share l 2 (get_or b 2 0) → bits_n 32 y ≡ share l 3 (get_or b 3 0)
    → xor_b (xor_b (bits_n 32 v) (bits_n 32 w)) (xor_b (bits_n 32 x) (bits_n 32 y)) ≡ t (bytes_bits b)
unfolding spread
all-added {l} {t} m b e v w x y ev ew ex ey =
    ap₂ xor_b (ap₂ xor_b ev ew) (ap₂ xor_b ex ey)
    ∙ in_four m (get_or b 0 0) (get_or b 1 0) (get_or b 2 0) (get_or b 3 0)
    ∙ ap (λ (b : List ℕ). t (bytes_bits b)) (spread-all 4 b e)

-- ---- what stands where in a table

entry-bits : {l : Bits → Bits} → Linear l → (j x : ℕ) → j < 4 → bits_n 32 (entry l j x) ≡ share l j x
unfolding entry share
entry-bits {l} h j x below =
    let w = share l j x in
    ap (λ (n : ℕ). bits_n n (num_of w)) (sym (h.long _ ∙ length-placed j x below)) ∙ bits_n-num_of w

module _ (l : Bits → Bits) (j : ℕ) where
  length-entries : length (entries l j 256 0) ≡ 256
  unfolding entries
  length-entries = length-listed (entry l j) (entries l j) (λ x. refl) (λ n x. refl) 256 0

  get_d-entries : (x : ℕ) → x < 256 → get_or (entries l j 256 0) x 0 ≡ entry l j x
  unfolding entries
  get_d-entries x h = listed (entry l j) (entries l j) (λ x. refl) (λ n x. refl) 256 x 0 h

  -- in the first of several tables, and past it
  get_d-first : (x : ℕ) (r : List ℕ) → x < 256 → get_or (entries l j 256 0 ++ r) x 0 ≡ entry l j x
  get_d-first x r h = get_or-append (entries l j 256 0) r 0 x (omega (arith, length-entries)) ∙ get_d-entries x h

  get_d_past : (x : ℕ) (r : List ℕ) → get_or (entries l j 256 0 ++ r) (256 + x) 0 ≡ get_or r x 0
  get_d_past x r =
      ap (λ (n : ℕ). get_or (entries l j 256 0 ++ r) (n + x) 0) (sym length-entries) ∙ get_or-append-add (entries l j 256 0) r x 0

in_table : (x : ℕ) → x < 256 → get_or table x 0 ≡ entry L 0 x
unfolding table
in_table x h = get_d-first L 0 x _ h

in_table' : (x : ℕ) → x < 256 → get_or table (256 + x) 0 ≡ entry L' 0 x
unfolding table
in_table' x h = get_d_past L 0 x _ ∙ get_d-entries L' 0 x h

get_d_at : (t : List ℕ) (j x n : ℕ) → 256 * j + x ≡ n → get_or t (256 * j + x) 0 ≡ get_or t n 0
get_d_at t j x n e = ap (λ (m : ℕ). get_or t m 0) e

in-wide : (j x : ℕ) → 0 < j → j < 4 → x < 256 → get_or wide (256 * (j - 1) + x) 0 ≡ entry L j x
unfolding wide
in-wide zero x p k h = absurd (omega arith)
in-wide (suc zero) x p k h = get_d_at wide 0 x x (omega arith) ∙ get_d-first L 1 x _ h
in-wide (suc (suc zero)) x p k h = get_d_past L 1 x _ ∙ get_d-first L 2 x _ h
in-wide (suc (suc (suc zero))) x p k h =
    get_d_at wide 2 x (256 + (256 + x)) (omega arith) ∙ get_d_past L 1 (256 + x) _ ∙ get_d_past L 2 x _ ∙ get_d-entries L 3 x h
in-wide (suc (suc (suc (suc j)))) x p k h = absurd (omega arith)

-- ---- the look-ups of the code

-- what is made of a byte in place j is what is made of it in the first place, turned
turned : (j x : ℕ) → j < 4 → rotl ((32 - 8 * j) % 32) (share L 0 x) ≡ share L j x
unfolding share L placed Sbox bits_n zeros rotl xor_b zip_with
turned zero x k = refl
turned (suc zero) x k = refl
turned (suc (suc zero)) x k = refl
turned (suc (suc (suc zero))) x k = refl
turned (suc (suc (suc (suc j)))) x k = absurd (omega arith)

turned' : (j x : ℕ) → j < 4 → rotl ((32 - 8 * j) % 32) (share L' 0 x) ≡ share L' j x
unfolding share L' placed Sbox bits_n zeros rotl xor_b zip_with
turned' zero x k = refl
turned' (suc zero) x k = refl
turned' (suc (suc zero)) x k = refl
turned' (suc (suc (suc zero))) x k = refl
turned' (suc (suc (suc (suc j)))) x k = absurd (omega arith)

module _ (t : List ℕ) (e : t ≡ table) (j x : ℕ) (k : j < 4) (h : x < 256) where
  pub looked-up-L : rotl ((32 - 8 * j) % 32) (bits_n 32 (get_or t x 0)) ≡ share L j x
  looked-up-L =
      ap (λ (t : List ℕ). rotl ((32 - 8 * j) % 32) (bits_n 32 (get_or t x 0))) e
      ∙ ap (rotl ((32 - 8 * j) % 32)) (ap (bits_n 32) (in_table x h) ∙ entry-bits mixes-T.linear 0 x (omega arith))
      ∙ turned j x k

  pub looked-up-L' : rotl ((32 - 8 * j) % 32) (bits_n 32 (get_or t (256 + x) 0)) ≡ share L' j x
  looked-up-L' =
      ap (λ (t : List ℕ). rotl ((32 - 8 * j) % 32) (bits_n 32 (get_or t (256 + x) 0))) e
      ∙ ap (rotl ((32 - 8 * j) % 32)) (ap (bits_n 32) (in_table' x h) ∙ entry-bits mixes-T'.linear 0 x (omega arith))
      ∙ turned' j x k

-- of T and of T'
pub looked-up : (t : List ℕ) → t ≡ table → (j x : ℕ) → j < 4 → x < 256
    → (rotl ((32 - 8 * j) % 32) (bits_n 32 (get_or t x 0)) ≡ share L j x) × (rotl ((32 - 8 * j) % 32) (bits_n 32 (get_or t (256 + x) 0)) ≡ share L' j x)
looked-up t e j x k h = (looked-up-L t e j x k h, looked-up-L' t e j x k h)

pub looked-up-wide : (w : List ℕ) → w ≡ wide → (j x : ℕ) → 0 < j → j < 4 → x < 256 → bits_n 32 (get_or w (256 * (j - 1) + x) 0) ≡ share L j x
looked-up-wide w e j x p k h =
    ap (λ (w : List ℕ). bits_n 32 (get_or w (256 * (j - 1) + x) 0)) e ∙ ap (bits_n 32) (in-wide j x p k h) ∙ entry-bits mixes-T.linear j x k

-- all three, for the functions that look up
pub ruleset lookups = (looked-up-L, looked-up-L', looked-up-wide)
