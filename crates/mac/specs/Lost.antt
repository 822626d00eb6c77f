-- One lost block of a message, worked out of the full tag (document 02, §5), over any block cipher: the blocks before it are chained
-- forwards from H(0), those after it backwards from the tag, and the block is what must have joined the two. What the block held is
-- not looked at. It is the one filling of demand 3's second sentence (`lost-filling`).
-- Assumes nothing.
use Rattle.std.specs.Prelude.{Bool, true, ◌++◌, ℕ, zero, suc, ◌*◌, ◌/◌, length, take, drop}
use Rattle.bits.specs.Choice.{pick}
use Rattle.bits.specs.Str.{Bits, xor_b, rotl, rotr}
use Rattle.cipher.specs.Cipher.{Cipher}
use Rattle.mac.specs.Padding.{Method, prefix, suffix, complete}
use Rattle.mac.specs.Algorithm.{Algorithm, alg1, alg2, alg3, alg4, alg5, alg6, alg7, alg8, Keys, steps, H0, K1, K2}
use Rattle.mac.specs.Tag.{some, H}

-- ---- the ways back through the steps of an algorithm

pub record Backs : Type 0 where
  pub first : Bits → Bits
  pub inner : Bits → Bits
  pub last : Bool → Bits → Bits

-- through the step of a block that is not the last: whether a block has gone before it decides
unfoldable pub step_back : Backs → Bool → Bits → Bits
step_back B begun y = pick begun (B.inner y) (B.first y)

module _ (C : Cipher) where
  -- each block but the last deciphered under K
  abbrev pub back_under_k : Keys → (Bool → Bits → Bits) → Backs
  back_under_k K last = record { first = C.decrypt K.k; inner = C.decrypt K.k; last = last }

  unfoldable pub backs : Algorithm → Keys → Backs
  backs alg1 K = back_under_k K (λ w g. C.decrypt K.k g)
  backs alg2 K = back_under_k K (λ w g. C.decrypt K.k (C.decrypt K.k' g))
  backs alg3 K = back_under_k K (λ w g. C.decrypt K.k (C.encrypt K.k' (C.decrypt K.k g)))
  backs alg4 K = record {
    first = λ y. C.decrypt K.k (C.decrypt K.k'' y);
    inner = C.decrypt K.k;
    last = λ w g. C.decrypt K.k (C.decrypt K.k' g);
  }
  backs alg5 K = let s = C.encrypt K.k (H0 C) in back_under_k K (λ w g. xor_b (C.decrypt K.k g) (pick w (K1 C s) (K2 C s)))
  backs alg6 K = back_under_k K (λ w g. C.decrypt K.k' g)
  backs alg7 K = back_under_k K (λ w g. C.decrypt K.k g)
  backs alg8 K = back_under_k K (λ w g. pick w (rotl 1 (C.decrypt K.k g)) (rotr 1 (C.decrypt K.k g)))

-- ---- backwards from G

-- What a block xor the chain value before it must be, where k blocks follow it, which are those of c, and G is g. Where none follows:
-- the way back from g. Else what the next block must be with its chain value tells that value, and the way back goes on from there
module _ (n : ℕ) (B : Backs) (w : Bool) (g : Bits) where
  unfoldable pub wanted : ℕ → Bool → Bits → Bits
  wanted zero begun c = B.last w g
  wanted (suc k) begun c = step_back B begun (xor_b (take n c) (wanted k true (drop n c)))

-- ---- the block

module _ (C : Cipher) (A : Algorithm) (M : Method) (K : Keys) where
  -- block j of the message x, counted from 0 in the message, where the full tag is t
  unfoldable pub lost_block : ℕ → Bits → Bits → Bits
  lost_block j x t =
      let n = C.n in
      let before = prefix M n (length x) ++ take (j * n) x in
      let after = drop (suc j * n) x ++ suffix M n (length x) in
      let i = length before / n in
      xor_b (wanted n (backs C A K) (complete n (length x)) t (length after / n) (some i) after) (H n (steps C A K).out before i).out
