-- The state that the code keeps in parts: how it begins, what a round makes of it, and how it ends. The rounds of the cipher and of
-- the key schedule differ in the mixing function alone, so it is a parameter.
-- Assumes nothing.
use mathlib.Core.Path.{◌≡◌, sym, ap, ap₂, ◌∙◌}
use mathlib.Core.List.{List, [], ◌∷◌}
use Prim.Native.Nat.{ℕ}
use lib.Bits.{bit_xor}
use lib.ListN.{length, get_or}
use Rattle.bits.specs.Str.{Bits, bits_n, words, zeros, xor_b}
use Rattle.bits.proofs.Numbers.{length-bits_n}
use Rattle.bits.proofs.Strings.{xor_b-comm, xor_b-assoc, xor_b-zeros, bits_n-xor, bits_n-zero}
use Rattle.sm4.specs.Cipher.{four, F, round, R}
use Rattle.sm4.specs.Split.{joined, Ready, Stepped}
use Rattle.sm4.specs.declared.Split.{Split}
use Rattle.sm4.proofs.Laws.{four-words}

-- three words by xor
three : (a b c : ℕ) → bits_n 32 (bit_xor (bit_xor a b) c) ≡ xor_b (xor_b (bits_n 32 a) (bits_n 32 b)) (bits_n 32 c)
three a b c = bits_n-xor 32 (bit_xor a b) c ∙ ap (λ (w : Bits). xor_b w (bits_n 32 c)) (bits_n-xor 32 a b)

-- ---- the beginning, and the end

abbrev pub first : List ℕ → ℕ → Split
first x k = record { x0 = get_or x 0 0; x1 = get_or x 1 0; x2 = get_or x 2 0; m = get_or x 3 0; n = 0; q = bit_xor (bit_xor (get_or x 1 0) (get_or x 2 0)) k }

module _ (x : List ℕ) (k : ℕ) where
  pub first_joined : length x ≡ 4 → joined (first x k) ≡ four (words x)
  unfolding joined
  first_joined h =
      (λ i. record { x0 = bits_n 32 (get_or x 0 0); x1 = bits_n 32 (get_or x 1 0); x2 = bits_n 32 (get_or x 2 0); x3 = whole i })
      ∙ sym (four-words x h)
    where
      whole : xor_b (bits_n 32 (get_or x 3 0)) (bits_n 32 0) ≡ bits_n 32 (get_or x 3 0)
      whole =
          ap (xor_b (bits_n 32 (get_or x 3 0))) (bits_n-zero 32 ∙ ap zeros (sym (length-bits_n 32 (get_or x 3 0)))) ∙ xor_b-zeros (bits_n 32 (get_or x 3 0))

  pub first_ready : Ready (first x k) (bits_n 32 k)
  unfolding Ready
  first_ready = three (get_or x 1 0) (get_or x 2 0) k

-- the newest word is the one that the last round made
pub newest : (s : Split) → bits_n 32 (bit_xor s.m s.n) ≡ (joined s).x3
unfolding joined
newest s = bits_n-xor 32 s.m s.n

pub ended : (s : Split) → four (words (bit_xor s.m s.n ∷ s.x2 ∷ s.x1 ∷ s.x0 ∷ [])) ≡ R (joined s)
unfolding four words joined R
ended s = λ i. record { x0 = newest s i; x1 = bits_n 32 s.x2; x2 = bits_n 32 s.x1; x3 = bits_n 32 s.x0 }

-- ---- a round: a to d are what the four bytes add, k is the next key

abbrev pub after : Split → ℕ → ℕ → ℕ → ℕ → ℕ → Split
after s a b c d k =
    record {
      x0 = s.x1;
      x1 = s.x2;
      x2 = bit_xor s.m s.n;
      m = bit_xor (bit_xor s.x0 a) b;
      n = bit_xor c d;
      q = bit_xor (bit_xor s.x2 (bit_xor s.m s.n)) k;
    }

module _ (t : Bits → Bits) (s : Split) (a b c d k : ℕ)
    (adds : xor_b (xor_b (bits_n 32 a) (bits_n 32 b)) (xor_b (bits_n 32 c) (bits_n 32 d)) ≡ t (bits_n 32 (bit_xor (bit_xor s.n s.q) s.m))) where
  on : (rk : Bits) → Ready s rk → joined (after s a b c d k) ≡ round t (joined s) rk
  unfolding joined Ready round F
  on rk ready =
      λ i. record { x0 = bits_n 32 s.x1; x1 = bits_n 32 s.x2; x2 = bits_n-xor 32 s.m s.n i; x3 = made i }
    where
      P : Bits
      P = xor_b (bits_n 32 s.x1) (bits_n 32 s.x2)

      M : Bits
      M = bits_n 32 s.m

      N : Bits
      N = bits_n 32 s.n

      mixed : bits_n 32 (bit_xor (bit_xor s.n s.q) s.m) ≡ xor_b (xor_b P (xor_b M N)) rk
      mixed =
          three s.n s.q s.m
          ∙ ap (λ (w : Bits). xor_b (xor_b N w) M) ready
          ∙ xor_b-comm (xor_b N (xor_b P rk)) M
          ∙ sym (xor_b-assoc M N (xor_b P rk))
          ∙ sym (xor_b-assoc (xor_b M N) P rk)
          ∙ ap (λ (w : Bits). xor_b w rk) (xor_b-comm (xor_b M N) P)

      made : xor_b (bits_n 32 (bit_xor (bit_xor s.x0 a) b)) (bits_n 32 (bit_xor c d)) ≡ xor_b (bits_n 32 s.x0) (t (xor_b (xor_b P (xor_b M N)) rk))
      made =
          ap₂ xor_b (three s.x0 a b ∙ xor_b-assoc (bits_n 32 s.x0) (bits_n 32 a) (bits_n 32 b)) (bits_n-xor 32 c d)
          ∙ xor_b-assoc (bits_n 32 s.x0) (xor_b (bits_n 32 a) (bits_n 32 b)) (xor_b (bits_n 32 c) (bits_n 32 d))
          ∙ ap (xor_b (bits_n 32 s.x0)) (adds ∙ ap t mixed)

  ready : Ready (after s a b c d k) (bits_n 32 k)
  unfolding Ready
  ready = three s.x2 (bit_xor s.m s.n) k

  pub stepped : Stepped t s (after s a b c d k) (bits_n 32 k)
  stepped = record { goes = on; ready = ready }
