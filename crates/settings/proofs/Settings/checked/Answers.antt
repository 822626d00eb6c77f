-- `checked` meets its contract: the refusal's number decides between the two cases.
-- Assumes nothing.
use Rattle.std.proofs.Common.{rules, ◌≡◌, ap, ◌∙◌, Err}
use Rattle.bits.proofs.Choice.{hit, miss}
use Rattle.refusals.specs.Number.{number_in}
use Rattle.refusals.proofs.Number.{refusing, sound}
use Rattle.settings.specs.Answers.{Sound, Unsound, checked_told, checked_of}
use Rattle.settings.proofs.Settings.checked.Goals as goal

pub returns-in_err-refusal : goal.returns-in_err-refusal
unfolding checked_told checked_of number_in
returns-in_err-refusal c =
    let refused : c.from_residual.result ≡ Err c.in_err-refusal.field-0.0 = search rules in
    ap checked_told refused ∙ miss _ _ _ _ (refusing _ c.in_err-refusal.ensures) (ap Unsound c.in_err-refusal.ensures)

pub returns : goal.returns
unfolding checked_told checked_of number_in
returns c = hit _ _ _ _ (sound c.in_ok-refusal.ensures) (ap Sound c.of.ensures)
