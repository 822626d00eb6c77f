-- Settings that are not refused: their list of faults has no number 0 (`settings-numbered`), so no fault is there, and the tag
-- length lies between 1 and 128 (`sound-size`) and each number is a byte (`sound-bytes`); and what the builder's two answers say (`unsound-is`, `sound-is`).
-- Assumes nothing.
use mathlib.Core.Path.{◌≡◌, refl, sym, subst}
use mathlib.Core.Bool.{Bool, true, false, ◌||◌, not}
use mathlib.Core.List.{List}
use Prim.Native.Nat.{ℕ, ◌≤◌, ◌<◌}
use native.Mathlib.Omega.{arith}
use lib.Dec.{eqb, ltb}
use lib.ListN.{length}
use borrow.Author.Tests.{ltb-false, eqb-true, eqb-false, not-false}
use Rattle.bits.specs.Choice.{pick}
use Rattle.bits.proofs.Strings.{neither}
use Rattle.bits.proofs.Faults.{Clear, passed, Every, all, with, Numbered, first-clear}
use Rattle.mac.specs.Algorithm.{algorithm_at, row, Keys}
use Rattle.mac.proofs.Numbers.{by_number}
use Rattle.keys.specs.Faults.{key_bytes}
use Rattle.keys.proofs.GivenKeys.{needed-bytes}
use Rattle.settings.specs.declared.Agreement.{Agreement}
use Rattle.settings.specs.declared.Settings.{Settings}
use Rattle.settings.specs.Answers.{Checked}
use Rattle.settings.specs.Answers.{Sound, Unsound}
use Rattle.settings.specs.Faults.{settings_faults, settings_refusal, algorithm_wrong, padding_wrong, size_wrong}
use Rattle.settings.specs.InUse.{in_use, agreement_faults}
use Rattle.settings.specs.Answers.{settings_of, checked_of}

-- what holds of 1 to 5 holds of their numbers
pub settings-every : {P : ℕ → Type 0} → P 1 → P 2 → P 3 → P 4 → P 5 → (A : Agreement) (n : ℕ) (K : Keys) → Every P (settings_faults A n K)
unfolding settings_faults
settings-every p1 p2 p3 p4 p5 A n K = with p1 (with p2 (with p3 (with p4 (with p5 all))))

pub settings-numbered : (A : Agreement) (n : ℕ) (K : Keys) → Numbered (settings_faults A n K)
settings-numbered A n K = settings-every refl refl refl refl refl A n K

pub agreement-every : {P : ℕ → Type 0} → P 1 → P 2 → P 3 → P 4 → P 5 → (A : Agreement) (s : List ℕ) → Every P (agreement_faults A s)
agreement-every p1 p2 p3 p4 p5 A s = settings-every p1 p2 p3 p4 p5 A (length s) (in_use A s)

pub agreement-numbered : (A : Agreement) (s : List ℕ) → Numbered (agreement_faults A s)
agreement-numbered A s = settings-numbered A (length s) (in_use A s)

longest-128 : (a : ℕ) → (row (algorithm_at a)).longest ≤ 128
longest-128 =
    by_number (λ a A. (row A).longest ≤ 128) (λ a. omega arith) (omega arith) (omega arith) (omega arith) (omega arith) (omega arith) (omega arith) (omega arith)

module _ (A : Agreement) (n : ℕ) (K : Keys) where
  sound-clear : Clear (settings_faults A n K) → (0 < A.m) × (A.m ≤ 128)
  unfolding settings_faults size_wrong
  sound-clear (passed e1 (passed e2 (passed e3 more))) =
      let longest = (row (algorithm_at A.algorithm)).longest in
      let both = neither (ltb A.m 1) (ltb longest A.m) e3 in
      (omega (arith, ltb-false A.m 1 both.0), omega (arith, longest-128 A.algorithm, ltb-false longest A.m both.1))

  pub sound-size : settings_refusal A n K ≡ 0 → (0 < A.m) × (A.m ≤ 128)
  unfolding settings_refusal
  sound-size e = sound-clear (first-clear _ (settings-numbered A n K) e)

  -- where so many bytes are not refused, as many as the algorithm takes are not
  pub needed-clear : Clear (settings_faults A n K) → Clear (settings_faults A (key_bytes A.master A.algorithm) K)
  unfolding settings_faults
  needed-clear (passed e1 (passed e2 (passed e3 (passed e4 more)))) = passed e1 (passed e2 (passed e3 (passed (needed-bytes A.master A.algorithm n e4) more)))

  -- so each number of the agreement is a byte
  byte-clear : Clear (settings_faults A n K) → (A.algorithm < 256) × ((A.padding < 256) × (A.m < 256))
  unfolding settings_faults algorithm_wrong padding_wrong pick
  byte-clear (passed e1 (passed e2 more)) =
      let size = sound-clear (passed e1 (passed e2 more)) in
      (omega (arith, ltb-false 8 A.algorithm (neither (ltb A.algorithm 1) (ltb 8 A.algorithm) e1).1), (padded (row (algorithm_at A.algorithm)).four e2, omega (arith, size.1)))
    where
      padded : (four : Bool) → pick four (not (eqb A.padding 4)) (ltb A.padding 1 || ltb 3 A.padding) ≡ false → A.padding < 256
      padded true e = let is = eqb-true A.padding 4 (not-false (eqb A.padding 4) e) in omega arith
      padded false e = omega (arith, ltb-false 3 A.padding (neither (ltb A.padding 1) (ltb 3 A.padding) e).1)

  pub sound-bytes : settings_refusal A n K ≡ 0 → (A.algorithm < 256) × ((A.padding < 256) × (A.m < 256))
  unfolding settings_refusal
  sound-bytes e = byte-clear (first-clear _ (settings-numbered A n K) e)

  -- ---- what the builder's answers say

  abbrev no : ℕ
  no = settings_refusal A n K

  abbrev chosen : Bool → Checked
  chosen b = pick b (Sound (settings_of A)) (Unsound no)

  pub unsound-is : (k : ℕ) → checked_of A n K ≡ Unsound k → (no ≡ k) × (no ≡ 0 → ⊥)
  unfolding checked_of pick
  unsound-is k e = go (eqb no 0) refl e
    where
      go : (b : Bool) → eqb no 0 ≡ b → chosen b ≡ Unsound k → (no ≡ k) × (no ≡ 0 → ⊥)
      go true h f = absurd (let z : ◌≡◌ {A = ℕ} 0 1 = cc in omega arith)
      go false h f = (cc, eqb-false no 0 h)

  pub sound-is : (S : Settings) → checked_of A n K ≡ Sound S → (no ≡ 0) × (S ≡ settings_of A)
  unfolding checked_of pick
  sound-is S e = go (eqb no 0) refl e
    where
      go : (b : Bool) → eqb no 0 ≡ b → chosen b ≡ Sound S → (no ≡ 0) × (S ≡ settings_of A)
      go true h f = (eqb-true no 0 h, cc)
      go false h f = absurd (let z : ◌≡◌ {A = ℕ} 0 1 = cc in omega arith)

  pub sound-fits : (S : Settings) → checked_of A n K ≡ Sound S → (0 < S.m) × (S.m ≤ 128)
  sound-fits S e = let both = sound-is S e in subst (λ (t : Settings). (0 < t.m) × (t.m ≤ 128)) (sym both.1) (sound-size both.0)
