-- Code and definition tell an answer with the same cases: what is told fixes the answer (`same-told`, `same-checked`).
-- Assumes nothing.
use mathlib.Core.Path.{◌≡◌, refl, sym, ap, ◌∙◌}
use Rattle.std.specs.Prelude.{Result, Ok, Err}
use Rattle.refusals.specs.declared.Refusal.{Refusal}
use Rattle.refusals.proofs.Number.{refusal_at, refusal-back}
use Rattle.settings.specs.Answers.{Told, Accepted, Made, Yes, No, Refused, told, Checked, Sound, Unsound, checked_told}
use Rattle.settings.specs.declared.Outcome.{Outcome}
use Rattle.settings.specs.declared.Outcome.TheVariants as outcome
use Rattle.settings.specs.declared.Settings.{Settings}

untold : Told → Result Outcome Refusal
untold Accepted = Ok outcome.Accepted
untold (Made calls) = Ok (outcome.Made calls)
untold (Yes calls) = Ok (outcome.Yes calls)
untold (No calls) = Ok (outcome.No calls)
untold (Refused number) = Err (refusal_at number)

untold-back : (x : Result Outcome Refusal) → untold (told x) ≡ x
unfolding told untold
untold-back (Ok outcome.Accepted) = refl
untold-back (Ok (outcome.Made calls)) = refl
untold-back (Ok (outcome.Yes calls)) = refl
untold-back (Ok (outcome.No calls)) = refl
untold-back (Err r) = ap Err (refusal-back r)

pub same-told : (x y : Result Outcome Refusal) → told x ≡ told y → x ≡ y
same-told x y e = sym (untold-back x) ∙ ap untold e ∙ untold-back y

unchecked : Checked → Result Settings Refusal
unchecked (Sound S) = Ok S
unchecked (Unsound number) = Err (refusal_at number)

unchecked-back : (x : Result Settings Refusal) → unchecked (checked_told x) ≡ x
unfolding checked_told unchecked
unchecked-back (Ok S) = refl
unchecked-back (Err r) = ap Err (refusal-back r)

pub same-checked : (x y : Result Settings Refusal) → checked_told x ≡ checked_told y → x ≡ y
same-checked x y e = sym (unchecked-back x) ∙ ap unchecked e ∙ unchecked-back y
