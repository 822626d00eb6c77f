-- Encryption is a permutation of the blocks of 128 bits, and decryption undoes it, for all round keys. With the words of a
-- state backwards a round undoes itself, so the rounds under the keys backwards undo the rounds.
-- Assumes nothing.
use mathlib.Core.Path.{◌≡◌, refl, sym, ap, ◌∙◌}
use mathlib.Core.List.{List, [], ◌∷◌, ◌++◌, reverse, reverse-cons, reverse-reverse}
use Prim.Native.Nat.{ℕ, ◌+◌, ◌≤◌}
use native.Mathlib.Omega.{arith}
use lib.ListN.{length, take, drop, length-append, length-take, length-drop, take-append-drop}
use lib.Seq.{take_all, drop-drop}
use Rattle.bits.specs.Str.{Bits, bytes_bits, words, xor_b}
use Rattle.bits.proofs.Packed.{length-bytes_bits}
use Rattle.bits.proofs.Strings.{xor_b-comm, xor_b-assoc, xor_b-twice, length-xor_b}
use Rattle.sm4.specs.Cipher.{Quad, quad, flat, four, τ, T, F, round, rounds, R, enc, dec, round_keys, encrypted, decrypted}
use Rattle.sm4.specs.Mixing.{mixes-T}
use Rattle.sm4.proofs.Laws.{Long, length-Sbox, quad-flat}
use Rattle.sm4.proofs.Walk.{rounds-snoc}

-- ---- T gives 32 bits

length-τ : (w : Bits) → length (τ w) ≡ 32
unfolding τ
length-τ w = simp (length-append, length-Sbox)

length-T : (w : Bits) → length (T w) ≡ 32
unfolding T
length-T w = mixes-T.linear.long (τ w) ∙ length-τ w

-- ---- rounds under any t that gives 32 bits

module _ (t : Bits → Bits) (length-t : (w : Bits) → length (t w) ≡ 32) where
  round-long : (X : Quad) (k : Bits) → Long X → Long (round t X k)
  unfolding round F
  round-long X k h = record { l0 = h.l1; l1 = h.l2; l2 = h.l3; l3 = length-xor_b X.x0 _ (h.l0 ∙ sym (length-t _)) ∙ h.l0 }

  rounds-long : (X : Quad) (ks : List Bits) → Long X → Long (rounds t X ks)
  unfolding rounds
  rounds-long X [] h = h
  rounds-long X (k ∷ ks) h = rounds-long (round t X k) ks (round-long X k h)

  round-back : (X : Quad) (k : Bits) → Long X → round t (R (round t X k)) k ≡ R X
  unfolding round F R
  round-back X k h = λ i. record { x0 = X.x3; x1 = X.x2; x2 = X.x1; x3 = last i }
    where
      m : Bits
      m = t (xor_b (xor_b (xor_b X.x1 X.x2) X.x3) k)

      backwards : (a b c : Bits) → xor_b (xor_b c b) a ≡ xor_b (xor_b a b) c
      backwards a b c = xor_b-comm (xor_b c b) a ∙ ap (xor_b a) (xor_b-comm c b) ∙ sym (xor_b-assoc a b c)

      last : xor_b (xor_b X.x0 m) (t (xor_b (xor_b (xor_b X.x3 X.x2) X.x1) k)) ≡ X.x0
      last =
          ap (λ (w : Bits). xor_b (xor_b X.x0 m) (t (xor_b w k))) (backwards X.x1 X.x2 X.x3)
          ∙ xor_b-twice X.x0 m (h.l0 ∙ sym (length-t _))

  rounds-back : (X : Quad) (ks : List Bits) → Long X → rounds t (R (rounds t X ks)) (reverse ks) ≡ R X
  unfolding rounds
  rounds-back X [] h = refl
  rounds-back X (k ∷ ks) h =
      ap (rounds t (R (rounds t (round t X k) ks))) (reverse-cons k ks)
      ∙ rounds-snoc t (R (rounds t (round t X k) ks)) (reverse ks) k
      ∙ ap (λ (Y : Quad). round t Y k) (rounds-back (round t X k) ks (round-long X k h))
      ∙ round-back X k h

-- ---- blocks

R-long : (X : Quad) → Long X → Long (R X)
unfolding R
R-long X h = record { l0 = h.l3; l1 = h.l2; l2 = h.l1; l3 = h.l0 }

R-R : (X : Quad) → R (R X) ≡ X
unfolding R
R-R X = refl

quad-long : (b : Bits) → length b ≡ 128 → Long (quad b)
unfolding quad
quad-long b h =
    record {
      l0 = omega (arith, length-take 32 b);
      l1 = omega (arith, length-take 32 (drop 32 b), length-drop 32 b);
      l2 = omega (arith, length-take 32 (drop 64 b), length-drop 64 b);
      l3 = omega (arith, length-take 32 (drop 96 b), length-drop 96 b);
    }

flat-quad : (b : Bits) → length b ≡ 128 → flat (quad b) ≡ b
unfolding flat quad
flat-quad b h =
    ap (λ (v : Bits). take 32 b ++ (take 32 (drop 32 b) ++ (take 32 (drop 64 b) ++ v))) (take_all 32 (drop 96 b) last)
    ∙ ap (λ (v : Bits). take 32 b ++ (take 32 (drop 32 b) ++ v)) (back 64)
    ∙ ap (λ (v : Bits). take 32 b ++ v) (back 32)
    ∙ take-append-drop 32 b
  where
    last : length (drop 96 b) ≤ 32
    last = omega (arith, length-drop 96 b)

    back : (n : ℕ) → take 32 (drop n b) ++ drop (n + 32) b ≡ drop n b
    back n = ap (λ (v : Bits). take 32 (drop n b) ++ v) (sym (drop-drop 32 n b)) ∙ take-append-drop 32 (drop n b)

-- words that are those of sixteen bytes
pub flat_loaded : (x b : List ℕ) → length b ≡ 16 → four (words x) ≡ quad (bytes_bits b) → flat (four (words x)) ≡ bytes_bits b
flat_loaded x b h e = ap flat e ∙ flat-quad (bytes_bits b) (omega (arith, length-bytes_bits b))

pub length-flat : (X : Quad) → Long X → length (flat X) ≡ 128
unfolding flat
length-flat X h = simp (length-append, h.l0, h.l1, h.l2, h.l3)

-- ---- the theorem, for all round keys

enc-long : (rks : List Bits) (b : Bits) → length b ≡ 128 → Long (R (rounds T (quad b) rks))
enc-long rks b h = R-long _ (rounds-long T length-T (quad b) rks (quad-long b h))

pub length-enc : (rks : List Bits) (b : Bits) → length b ≡ 128 → length (enc rks b) ≡ 128
unfolding enc
length-enc rks b h = length-flat _ (enc-long rks b h)

pub length-dec : (rks : List Bits) (b : Bits) → length b ≡ 128 → length (dec rks b) ≡ 128
unfolding dec
length-dec rks = length-enc (reverse rks)

pub dec-enc : (rks : List Bits) (b : Bits) → length b ≡ 128 → dec rks (enc rks b) ≡ b
unfolding dec enc
dec-enc rks b h =
    ap (λ (X : Quad). flat (R (rounds T X (reverse rks)))) (quad-flat _ (enc-long rks b h))
    ∙ ap (λ (X : Quad). flat (R X)) (rounds-back T length-T (quad b) rks (quad-long b h))
    ∙ ap flat (R-R (quad b))
    ∙ flat-quad b h

pub enc-dec : (rks : List Bits) (b : Bits) → length b ≡ 128 → enc rks (dec rks b) ≡ b
unfolding dec
enc-dec rks b h = ap (λ (l : List Bits). enc l (enc (reverse rks) b)) (sym (reverse-reverse rks)) ∙ dec-enc (reverse rks) b h

-- ---- and for all keys

pub length-encrypted : (MK b : Bits) → length b ≡ 128 → length (encrypted MK b) ≡ 128
unfolding encrypted
length-encrypted MK = length-enc (round_keys MK)

pub length-decrypted : (MK b : Bits) → length b ≡ 128 → length (decrypted MK b) ≡ 128
unfolding decrypted
length-decrypted MK = length-dec (round_keys MK)

pub decrypted-encrypted : (MK b : Bits) → length b ≡ 128 → decrypted MK (encrypted MK b) ≡ b
unfolding decrypted encrypted
decrypted-encrypted MK = dec-enc (round_keys MK)

pub encrypted-decrypted : (MK b : Bits) → length b ≡ 128 → encrypted MK (decrypted MK b) ≡ b
unfolding decrypted encrypted
encrypted-decrypted MK = enc-dec (round_keys MK)
