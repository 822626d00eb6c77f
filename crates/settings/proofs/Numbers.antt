-- The number and the calls of an answer that is chosen by the number of the first fault: x where that number is 0, else y, which
-- refuses by it. R is what the answer comes with. And document 01's number of every answer that the builder's contract allows.
-- Assumes nothing.
use mathlib.Core.Path.{◌≡◌, refl, ap, ◌∙◌}
use mathlib.Core.Bool.{Bool, true, false}
use Prim.Native.Nat.{ℕ}
use lib.Dec.{eqb}
use borrow.Fn.Kinds.{Dens}
use contract.Lifetimes.{Lfts}
use Rattle.bits.specs.Choice.{pick}
use Rattle.bits.specs.Once.{Allowed}
use Rattle.bits.proofs.Choice.{chosen-number}
use Rattle.keys.specs.Given.{key_bits}
use Rattle.settings.specs.Faults.{settings_refusal}
use Rattle.settings.specs.Answers.{number_of, reported_calls, settings_of, checked_of, checked_told, checked_number}
use Rattle.settings.specs.Answers.{Told}
use Rattle.settings.specs.Answers.{Sound, Unsound}
use Rattle.settings.proofs.Settings.checked.Kinds as checked-k
use Rattle.settings.proofs.Settings.checked.Reads as checked

-- a call that was not refused
abbrev pub Unrefused : Told → Type 0
Unrefused r = number_of r ≡ 0

-- ---- an answer that is chosen

module _ {R : Type 0} (answer : R → Told) (n : ℕ) (x y : R) where
  pub number-chosen : number_of (answer x) ≡ 0 → number_of (answer y) ≡ n → number_of (answer (pick (eqb n 0) x y)) ≡ n
  number-chosen good bad = chosen-number (λ (r : R). number_of (answer r)) n x y good bad

  pub calls-chosen : reported_calls (answer y) ≡ 0 → reported_calls (answer (pick (eqb n 0) x y)) ≡ pick (eqb n 0) (reported_calls (answer x)) 0
  unfolding pick
  calls-chosen bad = go (eqb n 0)
    where
      go : (b : Bool) → reported_calls (answer (pick b x y)) ≡ pick b (reported_calls (answer x)) 0
      go true = refl
      go false = bad

  -- which of the two it is, told by the number of the first fault or by the answer
  pub sound-chosen : n ≡ 0 → pick (eqb n 0) x y ≡ x
  unfolding pick
  sound-chosen e = rw e

  pub refused-chosen : Unrefused (answer x) → ¬ (Unrefused (answer (pick (eqb n 0) x y))) → pick (eqb n 0) x y ≡ y
  unfolding pick
  refused-chosen good u = go (eqb n 0) u
    where
      go : (b : Bool) → ¬ (Unrefused (answer (pick b x y))) → pick b x y ≡ y
      go true h = absurd (h good)
      go false h = refl

-- ---- the builder

module _ (κs : Lfts 0) (a : Dens κs checked-k.ps) (x : Allowed checked-k.ps checked-k.r checked.Learnt κs a) where
  abbrev refusing : ℕ
  refusing = settings_refusal a.0 a.1.0 (key_bits a.1.1.0)

  pub checked-number : checked_number (checked_told x.result) ≡ refusing
  unfolding checked_of checked_number
  checked-number = ap checked_number x.ensures ∙ chosen-number checked_number refusing (Sound (settings_of a.0)) (Unsound refusing) refl refl
