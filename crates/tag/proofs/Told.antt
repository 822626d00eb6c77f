-- What is told of a restored block fixes the answer (`same-restored`).
-- Assumes nothing.
use mathlib.Core.Path.{◌≡◌, refl, sym, ap, ◌∙◌}
use Rattle.std.specs.Prelude.{Result, Ok, Err}
use Rattle.refusals.specs.declared.Refusal.{Refusal}
use Rattle.refusals.proofs.Number.{refusal_at, refusal-back}
use Rattle.tag.specs.Restore.{Restored, Filled, Refused, restored_told}

untold : Restored → Result (Unit {0}) Refusal
untold Filled = Ok tt
untold (Refused number) = Err (refusal_at number)

untold-back : (x : Result (Unit {0}) Refusal) → untold (restored_told x) ≡ x
unfolding restored_told untold
untold-back (Ok x) = refl
untold-back (Err r) = ap Err (refusal-back r)

pub same-restored : (x y : Result (Unit {0}) Refusal) → restored_told x ≡ restored_told y → x ≡ y
same-restored x y e = sym (untold-back x) ∙ ap untold e ∙ untold-back y
