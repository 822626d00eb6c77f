-- What T and T' have in common, which is all that the code's rounds know of them: each puts the bytes of a word through the byte table
-- and ends with a rotation's xor, L or L'. L and L' are xors of a word with rotations of it, so they take the xor of two words to the xor
-- of what becomes of them, and words to words of the same length. By which numbers is of no account here.
-- Assumes nothing.
use mathlib.Core.Path.{◌≡◌, refl, sym, ap₂, ◌∙◌}
use Prim.Native.Nat.{ℕ}
use lib.ListN.{length}
use Rattle.bits.specs.Str.{Bits, xor_b, rotl}
use Rattle.bits.proofs.Strings.{xor_b-cross, length-xor_b, length-rotl, rotl-xor_b}
use Rattle.sm4.specs.Cipher.{τ, L, L', T, T'}

-- what takes the xor of two words to the xor of what becomes of them, and a word to a word
pub record Linear (l : Bits → Bits) : Type 0 where
  pub of_xor : (u v : Bits) → length u ≡ length v → l (xor_b u v) ≡ xor_b (l u) (l v)
  pub long : (w : Bits) → length (l w) ≡ length w

-- t is the mixing function that l ends
pub record Mixes (l t : Bits → Bits) : Type 0 where
  pub linear : Linear l
  pub whole : (w : Bits) → l (τ w) ≡ t w

-- with one rotation more
rotated : (k : ℕ) {l : Bits → Bits} → Linear l → Linear (λ w. xor_b (l w) (rotl k w))
rotated k {l} h =
    record {
      of_xor = λ u v e. ap₂ xor_b (h.of_xor u v e) (rotl-xor_b k u v e) ∙ xor_b-cross (l u) (l v) (rotl k u) (rotl k v);
      long = λ w. length-xor_b (l w) (rotl k w) (h.long w ∙ sym (length-rotl k w)) ∙ h.long w;
    }

unrotated : Linear (λ w. w)
unrotated = record { of_xor = λ u v e. refl; long = λ w. refl }

pub mixes-T : Mixes L T
unfolding L T
mixes-T = record { linear = rotated _ (rotated _ (rotated _ (rotated _ unrotated))); whole = λ w. refl }

pub mixes-T' : Mixes L' T'
unfolding L' T'
mixes-T' = record { linear = rotated _ (rotated _ unrotated); whole = λ w. refl }
