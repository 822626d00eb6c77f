-- Refusal 6 is retired (02 §7). It refused algorithm 4 with K' = K'', and no keys in use are so (`never-there`). The orders without its
-- line answer as those with it, for every agreement and all key bytes, whatever refusals come before and after (`same_answer`).
-- Assumes nothing.
use mathlib.Core.Path.{◌≡◌, ap, ◌∙◌}
use mathlib.Core.Bool.{Bool, false, ◌&&◌, and-false}
use mathlib.Core.List.{List, [], ◌∷◌, ◌++◌, append_assoc}
use Prim.Native.Nat.{ℕ}
use Rattle.bits.specs.Choice.{Fault, ◌given◌, first_of}
use Rattle.bits.specs.Str.{same_b}
use Rattle.bits.proofs.Faults.{first_past, first-same}
use Rattle.bits.proofs.Strings.{same_b-false}
use Rattle.mac.specs.Algorithm.{algorithm_at, row, Keys}
use Rattle.keys.proofs.GivenKeys.{never-same}
use Rattle.settings.specs.InUse.{in_use}
use Rattle.settings.specs.Faults.{settings_faults}
use Rattle.settings.specs.declared.Agreement.{Agreement}

module _ (A : Agreement) (s : List ℕ) where
  -- the keys in use
  abbrev K : Keys
  K = in_use A s

  -- algorithm 4 with K' = K''
  abbrev pub second_is_third : Bool
  second_is_third = (row (algorithm_at A.algorithm)).third && same_b K.k' K.k''

  pub never-there : second_is_third ≡ false
  never-there = ap (λ (b : Bool). (row (algorithm_at A.algorithm)).third && b) (same_b-false K.k' K.k'' (never-same A.master A.algorithm s)) ∙ and-false (row (algorithm_at A.algorithm)).third

  -- the list with its line, where n bytes were given
  abbrev pub with_six : ℕ → List Fault
  with_six n = settings_faults A n K ++ (6 given second_is_third ∷ [])

  pub same_answer : (n : ℕ) (before after : List Fault) → first_of (before ++ (with_six n ++ after)) ≡ first_of (before ++ (settings_faults A n K ++ after))
  same_answer n before after =
      first-same before _ _
      (ap first_of (append_assoc (settings_faults A n K) (6 given second_is_third ∷ []) after) ∙ first-same (settings_faults A n K) _ _ (first_past 6 second_is_third after never-there))
