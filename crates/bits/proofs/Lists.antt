-- Laws of lists that std lacks: take and drop of two lists put together, of a part, and of equal elements.
-- Assumes nothing.
use Rattle.std.proofs.Common.{◌≡◌, ℕ, zero, suc, ◌+◌, ◌-◌, ◌≤◌, min, List, [], ◌∷◌, ◌++◌, length, take, drop, replicate, length-take, sym, ap, ◌∙◌, arith}
use Rattle.std.proofs.lemmas.List as std
use native.Mathlib.Nat.{sub-zero, zero-sub, suc-sub-suc}
use lib.Seq.{take-take, take-nil, drop-nil}

module _ {A : Type 0} where
  pub drop-take : (k m : ℕ) (l : List A) → drop k (take (k + m) l) ≡ take m (drop k l)
  drop-take = std.drop-take

  -- what is left from a place on, taken whole
  pub take_rest : (k : ℕ) (l : List A) → take (length l - k) (drop k l) ≡ drop k l
  take_rest k l = std.take_rest l k

  -- of two beginnings the shorter
  pub take-take_min : (n m : ℕ) (l : List A) → take (min n m) l ≡ take m (take n l)
  take-take_min n m l =
      let both : min (min n m) (length l) ≡ min m (length (take n l)) = omega (arith, length-take n l) in
      sym (std.take_min (min n m) l) ∙ ap (λ (k : ℕ). take k l) both ∙ sym (take-take (min m (length (take n l))) n l (omega (arith, length-take n l))) ∙ std.take_min m (take n l)

  pub take-append : (k : ℕ) (x y : List A) → take k (x ++ y) ≡ take k x ++ take (k - length x) y
  take-append k [] y = rw (take-nil, sub-zero)
  take-append zero (b ∷ x) y = rw (zero-sub (suc (length x)))
  take-append (suc k) (b ∷ x) y = rw (suc-sub-suc k (length x)) (ap (λ (w : List A). b ∷ w) (take-append k x y))

  pub drop-append : (k : ℕ) (x y : List A) → drop k (x ++ y) ≡ drop k x ++ drop (k - length x) y
  drop-append k [] y = rw (drop-nil, sub-zero)
  drop-append zero (b ∷ x) y = rw (zero-sub (suc (length x)))
  drop-append (suc k) (b ∷ x) y = rw (suc-sub-suc k (length x)) (drop-append k x y)

  -- lists that agree in their first i elements, or from the ith on, agree so between the same lists
  pub take-inside : (k i : ℕ) (b x y a : List A) → length x ≡ length y → k ≡ length b + i → take i x ≡ take i y → take k (b ++ (x ++ a)) ≡ take k (b ++ (y ++ a))
  take-inside k i b x y a hl hk e =
      let hi : k - length b ≡ i = omega arith in
      cc (take-append k b (x ++ a), take-append i x a, take-append i y a, take-append k b (y ++ a))

  pub drop-inside : (k i : ℕ) (b x y a : List A) → length x ≡ length y → k ≡ length b + i → drop i x ≡ drop i y → drop k (b ++ (x ++ a)) ≡ drop k (b ++ (y ++ a))
  drop-inside k i b x y a hl hk e =
      let hi : k - length b ≡ i = omega arith in
      cc (drop-append k b (x ++ a), drop-append i x a, drop-append i y a, drop-append k b (y ++ a))

-- ---- equal elements

pub take-replicate : {A : Type 0} (a : A) (n k : ℕ) → n ≤ k → take n (replicate k a) ≡ replicate n a
take-replicate a n k = std.take-replicate n k a

pub drop-replicate : {A : Type 0} (a : A) (n k : ℕ) → n ≤ k → drop n (replicate k a) ≡ replicate (k - n) a
drop-replicate a n k h = std.drop-replicate n k a
