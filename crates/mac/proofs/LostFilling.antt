-- The lost block that is worked out (`lost_block`) is the one filling of demand 3's second sentence, at any block width n; algorithm,
-- padding and keys are any.
--
-- `lost-filling`: for every string of n bits it is the filling of `one-filling`, which is the only one that the tag fits.
--
-- The proof: out of the tag that a filling gives it is that filling (`lost-refilled`), and each string is such a tag.
-- Assumes nothing.
use mathlib.Core.Path.{◌≡◌, sym, ap, ◌∙◌}
use mathlib.Core.List.{◌++◌}
use Prim.Native.Nat.{ℕ, suc, ◌*◌, ◌/◌, ◌≤◌}
use lib.ListN.{length}
use Rattle.bits.specs.Str.{Bits, xor_b}
use Rattle.cipher.specs.Cipher.{Cipher, Lawful}
use Rattle.mac.specs.Padding.{Method, prefix, suffix, complete}
use Rattle.mac.specs.Algorithm.{Algorithm, Keys, steps}
use Rattle.mac.specs.Tag.{some, H}
use Rattle.mac.specs.Lost.{backs, wanted, lost_block}
use Rattle.mac.proofs.OneBlock.{Apart, refilled, full, one-filling}
use Rattle.mac.proofs.Lost.{lost-refilled}

module _ (C : Cipher) (L : Lawful C) (A : Algorithm) (M : Method) (K : Keys) where
  abbrev n : ℕ
  n = C.n

  module _ (j : ℕ) (x : Bits) (fits : suc j * n ≤ length x) where
    pub lost-filling : (t : Bits) (ht : length t ≡ n) → lost_block C A M K j x t ≡ (one-filling C L A M K j x fits t ht).filling
    lost-filling t ht =
        let one = one-filling C L A M K j x fits t ht in
        ap (lost_block C A M K j x) (sym one.fits) ∙ lost-refilled C L A M K j x fits one.filling one.long

    -- put into its place it has the tag, and nothing else has
    pub lost-long : (t : Bits) → length t ≡ n → length (lost_block C A M K j x t) ≡ n
    lost-long t ht = ap length (lost-filling t ht) ∙ (one-filling C L A M K j x fits t ht).long

    pub lost-fits : (t : Bits) → length t ≡ n → full C A M K (refilled n j x (lost_block C A M K j x t)) ≡ t
    lost-fits t ht = ap (λ (b : Bits). full C A M K (refilled n j x b)) (lost-filling t ht) ∙ (one-filling C L A M K j x fits t ht).fits

    pub lost-only : (t b : Bits) → length b ≡ n → full C A M K (refilled n j x b) ≡ t → b ≡ lost_block C A M K j x t
    lost-only t b hb e = sym (lost-refilled C L A M K j x fits b hb) ∙ ap (lost_block C A M K j x) e

  -- what the block holds has no influence
  pub lost-same : (j : ℕ) (x y : Bits) → Apart n j x y → (t : Bits) → lost_block C A M K j x t ≡ lost_block C A M K j y t
  unfolding lost_block
  lost-same j x y h t = λ i. at (h.same_length i) (h.same-before i) (h.same_after i)
    where
      at : ℕ → Bits → Bits → Bits
      at l u v =
          let before = prefix M n l ++ u in
          let after = v ++ suffix M n l in
          let i = length before / n in
          xor_b (wanted n (backs C A K) (complete n l) t (length after / n) (some i) after) (H n (steps C A K).out before i).out
