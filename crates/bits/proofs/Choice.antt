-- A choice whose test is known (`hit`, `miss`); a choice under a function (`pick-ap`), and what holds of both (`either_way`). And an
-- answer that is chosen by the number of the first fault (`chosen-number`): it has that number.
-- Assumes nothing.
use mathlib.Core.Path.{◌≡◌, refl, sym, ◌∙◌}
use mathlib.Core.Bool.{Bool, true, false}
use Prim.Native.Nat.{ℕ}
use lib.Dec.{eqb}
use borrow.Author.Tests.{eqb-true}
use Rattle.bits.specs.Choice.{pick}

pub hit : {A : Type 0} (b : Bool) (x y r : A) → b ≡ true → r ≡ x → r ≡ pick b x y
unfolding pick
hit b x y r e h = rw e h

pub miss : {A : Type 0} (b : Bool) (x y r : A) → b ≡ false → r ≡ y → r ≡ pick b x y
unfolding pick
miss b x y r e h = rw e h

pub pick-ap : {A B : Type 0} (f : A → B) (b : Bool) (x y : A) → f (pick b x y) ≡ pick b (f x) (f y)
unfolding pick
pick-ap f true x y = refl
pick-ap f false x y = refl

pub either_way : {A B : Type 0} (f : A → B) (b : Bool) {x y : A} {v : B} → f x ≡ v → f y ≡ v → f (pick b x y) ≡ v
unfolding pick
either_way f true e h = e
either_way f false e h = h

pub chosen-number : {R : Type 0} (number : R → ℕ) (n : ℕ) (x y : R) → number x ≡ 0 → number y ≡ n → number (pick (eqb n 0) x y) ≡ n
unfolding pick
chosen-number number n x y good bad = go (eqb n 0) refl
  where
    go : (b : Bool) → eqb n 0 ≡ b → number (pick b x y) ≡ n
    go true e = good ∙ sym (eqb-true n 0 e)
    go false e = bad
