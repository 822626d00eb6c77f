-- A choice by a test, and the first of several faults in a given order: every ordered list of refusals is one of these.
-- Assumes nothing.
use Rattle.std.specs.Prelude.{Bool, true, false, ◌||◌, List, [], ◌∷◌, ℕ, eqb, Result, Ok, Err}

-- a where the test says yes, else b
unfoldable pub pick {ℓ} : {A : Type ℓ} → Bool → A → A → A
pick true a b = a
pick false a b = b

-- a refusal's number, and whether its fault is there
infix 70 ◌given◌
pub data Fault : Type 0 where
  ◌given◌ : ℕ → Bool → Fault

-- the number of the first fault that is there; 0 where there is none
unfoldable pub first_of : List Fault → ℕ
first_of [] = 0
first_of (n given b ∷ fs) = pick b n (first_of fs)

-- whether a number is one of these
unfoldable pub one_of : List ℕ → ℕ → Bool
one_of [] n = false
one_of (k ∷ ks) n = eqb n k || one_of ks n

-- numbers and tests, one with the other
unfoldable pub faults : List ℕ → List Bool → List Fault
faults [] bs = []
faults (n ∷ ns) [] = []
faults (n ∷ ns) (b ∷ bs) = n given b ∷ faults ns bs

-- the first test that says yes refuses with what stands beside it; where none does, nothing is refused
unfoldable pub first_fault : {A : Type 0} → List (Bool × A) → Result (Unit {0}) A
first_fault [] = Ok tt
first_fault (t ∷ ts) = pick t.0 (Err t.1) (first_fault ts)
