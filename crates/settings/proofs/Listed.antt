-- Which numbers a call can answer: they stand in a list of its own, and the retired 6 stands in none (`Among`). Where the number is that
-- of the first fault of a list, it is enough that each fault's number stands there (`among`). So are 0 to 5 for the agreement and the
-- keys, of every answer that the contracts of `refusal` and of the builder allow (`refusal-answers`, `checked-answers`).
-- Assumes nothing.
use mathlib.Core.Path.{◌≡◌, refl, sym, ap, ◌∙◌, subst}
use mathlib.Core.Bool.{true, false}
use mathlib.Core.List.{List, [], ◌∷◌}
use Prim.Native.Nat.{ℕ}
use contract.Lifetimes.{Lfts}
use borrow.Fn.Kinds.{Dens}
use Rattle.bits.specs.Choice.{Fault, first_of, one_of}
use Rattle.bits.specs.Once.{Allowed}
use Rattle.bits.proofs.Faults.{Every, every_first, unlisted}
use Rattle.mac.specs.Algorithm.{Keys}
use Rattle.keys.specs.Given.{key_bits}
use Rattle.settings.specs.Faults.{settings_refusal}
use Rattle.refusals.specs.Number.{number_in}
use Rattle.settings.specs.Answers.{checked_number, checked_told}
use Rattle.settings.specs.declared.Agreement.{Agreement}
use Rattle.settings.proofs.Sound.{settings-every}
use Rattle.settings.proofs.Numbers.{checked-number}
use Rattle.settings.proofs.refusal.Kinds as refusal-k
use Rattle.settings.proofs.refusal.Reads as refusal
use Rattle.settings.proofs.Settings.checked.Kinds as checked-k
use Rattle.settings.proofs.Settings.checked.Reads as checked

-- one of these, and not 6
abbrev pub Among : List ℕ → ℕ → Type 0
Among ks n = (one_of ks n ≡ true) × ¬ (n ≡ 6)

pub among : (ks : List ℕ) → one_of ks 0 ≡ true → one_of ks 6 ≡ false → {n : ℕ} {fs : List Fault} → n ≡ first_of fs → Every (λ k. one_of ks k ≡ true) fs → Among ks n
among ks none without e every = let is = ap (one_of ks) e ∙ every_first {P = λ k. one_of ks k ≡ true} none every in (is, unlisted ks 6 without is)

-- ---- an agreement and the keys in use

abbrev pub settings_answers : List ℕ
settings_answers = 0 ∷ 1 ∷ 2 ∷ 3 ∷ 4 ∷ 5 ∷ []

settings-among : (A : Agreement) (n : ℕ) (K : Keys) → Among settings_answers (settings_refusal A n K)
unfolding settings_refusal one_of
settings-among A n K = among settings_answers refl refl refl (settings-every refl refl refl refl refl A n K)

module _ (κs : Lfts 0) where
  pub refusal-answers : (a : Dens κs refusal-k.ps) (x : Allowed refusal-k.ps refusal-k.r refusal.Learnt κs a) → Among settings_answers (number_in x.result)
  refusal-answers a x = subst (Among settings_answers) (sym x.ensures) (settings-among a.0 a.1.0 (key_bits a.1.1.0))

  pub checked-answers : (a : Dens κs checked-k.ps) (x : Allowed checked-k.ps checked-k.r checked.Learnt κs a) → Among settings_answers (checked_number (checked_told x.result))
  checked-answers a x = subst (Among settings_answers) (sym (checked-number κs a x)) (settings-among a.0 a.1.0 (key_bits a.1.1.0))
