-- A list by a rule f, as the constants CK and the entries of the tables are: l n i is f of the n numbers from i on. Its elements are
-- what the rule says of them.
-- Assumes nothing.
use mathlib.Core.Path.{◌≡◌, sym, ap, ◌∙◌}
use mathlib.Core.List.{List, [], ◌∷◌}
use Prim.Native.Nat.{ℕ, zero, suc, ◌+◌, ◌<◌}
use native.Mathlib.Nat.{zero-add, add-zero, add-suc, suc-add}
use native.Mathlib.Omega.{arith}
use lib.ListN.{length, get_or}

module _ {A : Type 0} (f : ℕ → A) (l : ℕ → ℕ → List A) (none : (i : ℕ) → l zero i ≡ []) (more : (n i : ℕ) → l (suc n) i ≡ f i ∷ l n (suc i)) where
  pub length-listed : (n i : ℕ) → length (l n i) ≡ n
  length-listed zero i = ap length (none i)
  length-listed (suc n) i = ap length (more n i) ∙ ap suc (length-listed n (suc i))

  from : (n i j : ℕ) (d : A) → j < n → get_or (l n i) j d ≡ f (i + j)
  from zero i j d h = absurd (omega arith)
  from (suc n) i zero d h = ap (λ (r : List A). get_or r 0 d) (more n i) ∙ ap f (sym (add-zero i))
  from (suc n) i (suc j) d h =
      ap (λ (r : List A). get_or r (suc j) d) (more n i) ∙ from n (suc i) j d (omega arith) ∙ ap f (suc-add i j ∙ sym (add-suc i j))

  pub listed : (n j : ℕ) (d : A) → j < n → get_or (l n 0) j d ≡ f j
  listed n j d h = from n 0 j d h ∙ ap f (zero-add j)
