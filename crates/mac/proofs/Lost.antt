-- The lost block that is worked out (`lost_block`), at any block width n; algorithm, padding and keys are any.
--
-- `lost-refilled`: worked out of the full tag of a message with any filling in that block, it is that filling, whatever the block holds
--     in the message that is given. So it is the one filling of demand 3's second sentence (LostFilling.antt).
--
-- The proof: each way back undoes its step (`undoes`), so backwards from G what a block xor its chain value must be is what it is
-- (`wanted-is`).
-- Assumes nothing.
use mathlib.Core.Path.{◌≡◌, refl, sym, ap, ap₂, ◌∙◌}
use mathlib.Core.Bool.{Bool, true, false}
use mathlib.Core.List.{◌++◌, append_assoc}
use Prim.Native.Nat.{ℕ, zero, suc, ◌+◌, ◌-◌, ◌*◌, ◌/◌, ◌≤◌, ◌<◌}
use native.Mathlib.Nat.{suc-mul, add-mul, mul-div_cancel, mul-le-mul_right}
use native.Mathlib.Omega.{arith}
use lib.ListN.{length, take, drop, length-append, length-drop}
use lib.Seq.{drop-drop, length-take-le}
use Rattle.bits.specs.Choice.{pick}
use Rattle.bits.specs.Str.{Bits, xor_b}
use Rattle.bits.proofs.Strings.{length-xor_b, xor_b-twice, xor_b-comm}
use Rattle.cipher.specs.Cipher.{Cipher, Lawful}
use Rattle.mac.specs.Run.{Run}
use Rattle.mac.specs.Padding.{Method, prefix, suffix, D, complete}
use Rattle.mac.specs.Algorithm.{Algorithm, alg1, alg2, alg3, alg4, alg5, alg6, alg7, alg8, Keys, Steps, step, steps, under_k, H0, K1, K2}
use Rattle.mac.specs.Tag.{some, H, G}
use Rattle.mac.specs.Lost.{Backs, step_back, back_under_k, backs, wanted, lost_block}
use Rattle.mac.proofs.Perm.{Perm, perm-then, perm-xor, perm-rotl, perm-rotr, perm-back}
use Rattle.mac.proofs.Padded.{last_block, count, ahead, length-prefix, padded-length}
use Rattle.mac.proofs.Steps.{Sound, sound, step-perm, perm-e, perm-d, pick-perm, pick-long, zeros-long, double-long}
use Rattle.mac.proofs.Chain.{length-D, D-here, past-here, all-long, H-long, H-before}
use Rattle.mac.proofs.OneBlock.{refilled, full, rest, full-value}

-- ---- each way back undoes its step

record Undoes (n : ℕ) (S : Steps) (B : Backs) : Type 0 where
  first : (x : Bits) → length x ≡ n → B.first (S.first x).out ≡ x
  inner : (x : Bits) → length x ≡ n → B.inner (S.inner x).out ≡ x
  last : (w : Bool) (x : Bits) → length x ≡ n → B.last w (S.last w x).out ≡ x

module _ (C : Cipher) (L : Lawful C) where
  abbrev e : (k : Bits) → Perm C.n (C.encrypt k)
  e = perm-e C L

  -- where the blocks but the last are deciphered under K
  usual : (K : Keys) (h : Bits) (last : Bool → Bits → Run Bits) (back : Bool → Bits → Bits)
      → ((w : Bool) (x : Bits) → length x ≡ C.n → back w (last w x).out ≡ x) → Undoes C.n (under_k C K h last) (back_under_k C K back)
  usual K h last back un = record { first = L.decrypt-encrypt K.k; inner = L.decrypt-encrypt K.k; last = un }

  undoes : (A : Algorithm) (K : Keys) → Undoes C.n (steps C A K).out (backs C A K)
  unfolding steps backs perm-e perm-d perm-then perm-back perm-xor perm-rotl perm-rotr pick-perm pick
  undoes alg1 K = usual K _ _ _ (λ w. (e K.k).undo)
  undoes alg2 K = usual K _ _ _ (λ w. (perm-then (e K.k) (e K.k')).undo)
  undoes alg3 K = usual K _ _ _ (λ w. (perm-then (perm-then (e K.k) (perm-d C L K.k')) (e K.k)).undo)
  undoes alg4 K = record {
    first = (perm-then (e K.k) (e K.k'')).undo;
    inner = (e K.k).undo;
    last = λ w. (perm-then (e K.k) (e K.k')).undo;
  }
  undoes alg5 K =
      let s = C.encrypt K.k (H0 C) in
      let one = double-long C L s (L.encrypt-long K.k (H0 C) (zeros-long C L)) in
      let two = double-long C L (K1 C s) one in
      usual K _ _ _ (λ w. (perm-then (perm-xor _ (pick-long w (K1 C s) (K2 C s) one two)) (e K.k)).undo)
  undoes alg6 K = usual K _ _ _ (λ w. (e K.k').undo)
  undoes alg7 K = record { first = (e K.k).undo; inner = (e K.k).undo; last = λ w. (e K.k).undo }
  undoes alg8 K = usual K _ _ _ (turns K)
    where
      turns : (K : Keys) (w : Bool) (x : Bits) → length x ≡ C.n → (backs C alg8 K).last w ((steps C alg8 K).out.last w x).out ≡ x
      turns K true = (perm-then (perm-rotr 1 L.wide) (e K.k)).undo
      turns K false = (perm-then (perm-rotl 1 L.wide) (e K.k)).undo

-- ---- backwards through a string that fills its blocks

-- xor with the same string, from the left
undone : (n : ℕ) (u v : Bits) → length u ≡ n → length v ≡ n → xor_b u (xor_b u v) ≡ v
undone n u v hu hv = xor_b-comm u (xor_b u v) ∙ ap (λ (z : Bits). xor_b z u) (xor_b-comm u v) ∙ xor_b-twice v u (hv ∙ sym hu)

module _ (n : ℕ) (pos : 0 < n) (A : Algorithm) (r : Run Steps) (ok : Sound n A r) (B : Backs) (un : Undoes n r.out B) (w : Bool) where
  abbrev S : Steps
  S = r.out

  step-undone : (begun : Bool) (x : Bits) → length x ≡ n → step_back B begun (step S begun x).out ≡ x
  unfolding step_back step pick
  step-undone true = un.inner
  step-undone false = un.first

  -- the ways back keep the length, since they undo permutations
  back_long : {f : Bits → Bits} → Perm n f → (g : Bits → Bits) → ((x : Bits) → length x ≡ n → g (f x) ≡ x) → (y : Bits) → length y ≡ n → length (g y) ≡ n
  back_long p g u y hy = ap length (ap g (sym (p.redo y hy)) ∙ u (p.back y) (p.back-keeps y hy)) ∙ p.back-keeps y hy

  wanted-long : (g : Bits) → length g ≡ n → (k : ℕ) (begun : Bool) (c : Bits) → k * n ≤ length c → length (wanted n B w g k begun c) ≡ n
  unfolding wanted
  wanted-long g hg zero begun c le = back_long (ok.last-perm w) (B.last w) (un.last w) g hg
  wanted-long g hg (suc k) begun c le =
      let block = length-take-le n c (omega (arith, suc-mul k n)) in
      let after = wanted-long g hg k true (drop n c) (omega (arith, suc-mul k n, length-drop n c)) in
      back_long (step-perm ok begun) (step_back B begun) (step-undone begun) _ (length-xor_b (take n c) _ (block ∙ sym after) ∙ block)

  module _ (P : Bits) (q : ℕ) (long : length P ≡ suc q * n) where
    -- D(i+1) xor H(i)
    abbrev input : ℕ → Bits
    input i = xor_b (D n P i) (H n S P i).out

    H-wide : (i : ℕ) → i ≤ q → length (H n S P i).out ≡ n
    H-wide i h = let le : i * n ≤ q * n = mul-le-mul_right n h in H-long n pos A r ok P i (omega (arith, suc-mul q n))

    D-wide : (i : ℕ) → i ≤ q → length (D n P i) ≡ n
    D-wide i h = let le : i * n ≤ q * n = mul-le-mul_right n h in length-D n P i (omega (arith, suc-mul q n, suc-mul i n))

    input-wide : (i : ℕ) → i ≤ q → length (input i) ≡ n
    input-wide i h = length-xor_b (D n P i) (H n S P i).out (D-wide i h ∙ sym (H-wide i h)) ∙ D-wide i h

    onward : (k i : ℕ) → i < q → wanted n B w (G n S P w).out k true (drop (suc (suc i) * n) P) ≡ input (suc i)
        → wanted n B w (G n S P w).out (suc k) (some i) (drop (suc i * n) P) ≡ input i
    unfolding wanted D H
    onward k i less e =
        ap (λ (c : Bits). step_back B (some i) (xor_b (D n P (suc i)) (wanted n B w (G n S P w).out k true c))) next
        ∙ ap (λ (u : Bits). step_back B (some i) (xor_b (D n P (suc i)) u)) e
        ∙ ap (step_back B (some i)) (undone n (D n P (suc i)) (H n S P (suc i)).out (D-wide (suc i) less) (H-wide (suc i) less))
        ∙ step-undone (some i) (input i) (input-wide i (omega arith))
      where
        next : drop n (drop (suc i * n) P) ≡ drop (suc (suc i) * n) P
        next = drop-drop n (suc i * n) P ∙ ap (λ (m : ℕ). drop m P) (sym (suc-mul (suc i) n))

    -- where k blocks follow block i, what is wanted there is what is there
    wanted-is : (k i : ℕ) → i + k ≡ q → wanted n B w (G n S P w).out k (some i) (drop (suc i * n) P) ≡ input i
    unfolding wanted G some
    wanted-is zero i e = ap (λ (m : ℕ). B.last w (S.last w (input m)).out) at_last ∙ un.last w (input i) (input-wide i (omega arith))
      where
        at_last : length P / n - 1 ≡ i
        at_last = omega (arith, last_block n q (length P) pos long)
    wanted-is (suc k) i e = onward k i (omega arith) (wanted-is k (suc i) (omega arith))

  -- the block b between i blocks and k blocks
  wanted-here : (i k : ℕ) (a b c : Bits) → length a ≡ i * n → length b ≡ n → length c ≡ k * n
      → wanted n B w (G n S (a ++ (b ++ c)) w).out k (some i) c ≡ xor_b b (H n S a i).out
  wanted-here i k a b c ha hb hc =
      ap (wanted n B w (G n S (a ++ (b ++ c)) w).out k (some i)) (sym (past-here n i a b c ha hb))
      ∙ wanted-is (a ++ (b ++ c)) (i + k) (all-long n i k a b c ha hb hc) k i refl
      ∙ ap₂ xor_b (D-here n i a b c ha hb) (H-before n pos A r ok i a c ha b)

-- ---- the lost block

module _ (C : Cipher) (L : Lawful C) (A : Algorithm) (M : Method) (K : Keys) where
  abbrev n : ℕ
  n = C.n

  pub wanted-wide : (w : Bool) (g : Bits) → length g ≡ n → (k : ℕ) (begun : Bool) (c : Bits) → k * n ≤ length c → length (wanted n (backs C A K) w g k begun c) ≡ n
  wanted-wide w = wanted-long n L.wide A (steps C A K) (sound C L A K) (backs C A K) (undoes C L A K) w

  -- the inner step and its way back
  pub inner-undone : (x : Bits) → length x ≡ n → (backs C A K).inner ((steps C A K).out.inner x).out ≡ x
  inner-undone = (undoes C L A K).inner

  module _ (j : ℕ) (x : Bits) (fits : suc j * n ≤ length x) where
    le : j * n ≤ length x
    le = omega (arith, suc-mul j n)

    pub lost-refilled : (b : Bits) → length b ≡ n → lost_block C A M K j x (full C A M K (refilled n j x b)) ≡ b
    unfolding lost_block
    lost-refilled b hb =
        ap (λ (t : Bits). xor_b (wanted n B w t (length after / n) (some (length before / n)) after) (H n S before (length before / n)).out) tag
        ∙ ap₂ (λ (k i : ℕ). xor_b (wanted n B w (G n S P w).out k (some i) after) (H n S before i).out) (ap (λ (m : ℕ). m / n) after-long ∙ mul-div_cancel k L.wide) (ap (λ (m : ℕ). m / n) before-long ∙ mul-div_cancel i L.wide)
        ∙ ap (λ (u : Bits). xor_b u (H n S before i).out) (wanted-here n L.wide A (steps C A K) (sound C L A K) B (undoes C L A K) w i k before b after before-long hb after-long)
        ∙ xor_b-twice b (H n S before i).out (hb ∙ sym (H-long n L.wide A (steps C A K) (sound C L A K) before i (omega (arith, before-long))))
      where
        S : Steps
        S = (steps C A K).out

        B : Backs
        B = backs C A K

        l : ℕ
        l = length x

        w : Bool
        w = complete n l

        before : Bits
        before = prefix M n l ++ take (j * n) x

        after : Bits
        after = drop (suc j * n) x ++ suffix M n l

        P : Bits
        P = before ++ (b ++ after)

        i : ℕ
        i = ahead M + j

        k : ℕ
        k = count M n l - suc i

        before-long : length before ≡ i * n
        before-long = omega (arith, length-append (prefix M n l) (take (j * n) x), length-prefix M n l, length-take-le (j * n) x le, add-mul (ahead M) j n)

        after-long : length after ≡ k * n
        after-long =
            rest n (count M n l) i (length after)
            (omega (arith, padded-length M n l L.wide, length-append (drop (suc j * n) x) (suffix M n l), length-drop (suc j * n) x, length-prefix M n l, fits, add-mul (ahead M) j n, suc-mul i n, suc-mul j n))

        same_length : length (refilled n j x b) ≡ l
        same_length = omega (arith, length-append (take (j * n) x) (b ++ drop (suc j * n) x), length-append b (drop (suc j * n) x), length-take-le (j * n) x le, length-drop (suc j * n) x, suc-mul j n)

        regroup : prefix M n l ++ (refilled n j x b ++ suffix M n l) ≡ P
        regroup = simp append_assoc

        tag : full C A M K (refilled n j x b) ≡ (G n S P w).out
        tag = full-value C L A M K l (refilled n j x b) same_length ∙ ap (λ (Q : Bits). (G n S Q w).out) regroup
