-- A refusal is told by its number (`same-refusal`), no number is 0 (`refusal-numbered`), so a judgement is told by the number in it
-- (`same-judged`); and the number in what `first_fault` finds is that of the first fault (`first-number`).
-- Assumes nothing.
use mathlib.Core.Path.{◌≡◌, refl, sym, ap, ◌∙◌}
use Prim.Native.Nat.{ℕ, ◌<◌}
use native.Mathlib.Omega.{arith}
use lib.Dec.{eqb}
use borrow.Author.Tests.{eq-eqb, ne_eqb}
use Rattle.std.specs.Prelude.{Bool, true, false, List, [], ◌∷◌, Result, Ok, Err}
use Rattle.bits.specs.Choice.{pick, first_of, first_fault}
use Rattle.refusals.specs.Number.{refusal_number, number_in, faults_of}
use Rattle.refusals.specs.declared.Refusal.{Refusal}
use Rattle.refusals.specs.declared.Refusal.TheVariants.{Algorithm, Padding, TagBits, KeyBytes, SameKeys, MessageBytes, TooManyBits, TooFewBlocks, TagBytes, Closed, DeclaredLength, CutShort, FieldOrder, FieldValue, Date, AfterTheSeal, NotAsAgreed, Seal, NoSuchBlock}

-- the refusal of a number; the last where no refusal has it
abbrev pub refusal_at : ℕ → Refusal
refusal_at n =
    pick (eqb n 1) Algorithm (pick (eqb n 2) Padding (pick (eqb n 3) TagBits (pick (eqb n 4) KeyBytes (pick (eqb n 5) SameKeys
    (pick (eqb n 7) MessageBytes (pick (eqb n 8) TooManyBits (pick (eqb n 9) TooFewBlocks (pick (eqb n 10) TagBytes (pick (eqb n 11) Closed
    (pick (eqb n 12) DeclaredLength (pick (eqb n 20) CutShort (pick (eqb n 21) FieldOrder (pick (eqb n 22) FieldValue (pick (eqb n 23) Date
    (pick (eqb n 24) AfterTheSeal (pick (eqb n 25) NotAsAgreed (pick (eqb n 30) Seal NoSuchBlock)))))))))))))))))

pub refusal-back : (r : Refusal) → refusal_at (refusal_number r) ≡ r
unfolding pick
refusal-back Algorithm = refl
refusal-back Padding = refl
refusal-back TagBits = refl
refusal-back KeyBytes = refl
refusal-back SameKeys = refl
refusal-back MessageBytes = refl
refusal-back TooManyBits = refl
refusal-back TooFewBlocks = refl
refusal-back TagBytes = refl
refusal-back Closed = refl
refusal-back DeclaredLength = refl
refusal-back CutShort = refl
refusal-back FieldOrder = refl
refusal-back FieldValue = refl
refusal-back Date = refl
refusal-back AfterTheSeal = refl
refusal-back NotAsAgreed = refl
refusal-back Seal = refl
refusal-back NoSuchBlock = refl

pub same-refusal : (r s : Refusal) → refusal_number r ≡ refusal_number s → r ≡ s
same-refusal r s e = sym (refusal-back r) ∙ ap refusal_at e ∙ refusal-back s

pub refusal-numbered : (r : Refusal) → 0 < refusal_number r
refusal-numbered Algorithm = omega arith
refusal-numbered Padding = omega arith
refusal-numbered TagBits = omega arith
refusal-numbered KeyBytes = omega arith
refusal-numbered SameKeys = omega arith
refusal-numbered MessageBytes = omega arith
refusal-numbered TooManyBits = omega arith
refusal-numbered TooFewBlocks = omega arith
refusal-numbered TagBytes = omega arith
refusal-numbered Closed = omega arith
refusal-numbered DeclaredLength = omega arith
refusal-numbered CutShort = omega arith
refusal-numbered FieldOrder = omega arith
refusal-numbered FieldValue = omega arith
refusal-numbered Date = omega arith
refusal-numbered AfterTheSeal = omega arith
refusal-numbered NotAsAgreed = omega arith
refusal-numbered Seal = omega arith
refusal-numbered NoSuchBlock = omega arith

-- a number that refuses is not 0, and the number of what is not refused is
pub refusing : (r : Refusal) {n : ℕ} → refusal_number r ≡ n → eqb n 0 ≡ false
refusing r {n = n} e = ne_eqb n 0 (λ z. absurd (omega (arith, refusal-numbered r)))

pub sound : {n : ℕ} → 0 ≡ n → eqb n 0 ≡ true
sound {n = n} e = eq-eqb n 0 (sym e)

-- two judgements that find nothing to hand on, or the same
pub same-judged : {A : Type 0} → ((x y : A) → x ≡ y) → (p q : Result A Refusal) → number_in p ≡ number_in q → p ≡ q
unfolding number_in
same-judged one (Ok x) (Ok y) e = ap Ok (one x y)
same-judged one (Ok x) (Err s) e = absurd (omega (arith, refusal-numbered s))
same-judged one (Err r) (Ok y) e = absurd (omega (arith, refusal-numbered r))
same-judged one (Err r) (Err s) e = ap Err (same-refusal r s e)

-- what `first_fault` finds has the number of the first fault
pub first-number : (ts : List (Bool × Refusal)) → number_in (first_fault ts) ≡ first_of (faults_of ts)
unfolding number_in first_fault faults_of first_of pick
first-number [] = refl
first-number ((true, r) ∷ ts) = refl
first-number ((false, r) ∷ ts) = first-number ts

pub refuses : (r : Refusal) → refusal_number r ≡ 0 → ⊥
refuses r z = omega (arith, refusal-numbered r)

-- 6 is retired
pub retired : (r : Refusal) → refusal_number r ≡ 6 → ⊥
retired Algorithm z = omega arith
retired Padding z = omega arith
retired TagBits z = omega arith
retired KeyBytes z = omega arith
retired SameKeys z = omega arith
retired MessageBytes z = omega arith
retired TooManyBits z = omega arith
retired TooFewBlocks z = omega arith
retired TagBytes z = omega arith
retired Closed z = omega arith
retired DeclaredLength z = omega arith
retired CutShort z = omega arith
retired FieldOrder z = omega arith
retired FieldValue z = omega arith
retired Date z = omega arith
retired AfterTheSeal z = omega arith
retired NotAsAgreed z = omega arith
retired Seal z = omega arith
retired NoSuchBlock z = omega arith
