-- `read_under` meets its contract: what the check's answer makes of the slip (`answered`).
-- Assumes nothing.
use Rattle.std.proofs.Common.{rules, ◌≡◌, ap, ◌∙◌, Err}
use Rattle.settings.specs.Answers.{told}
use Rattle.slip.specs.Slip.{accepted_slip, reading}
use Rattle.slip.proofs.Judged.{verdict, answered, not_yes}
use Rattle.slip.proofs.read_under.Goals as goal

pub returns-in_err-calls : goal.returns-in_err-calls
unfolding reading told verdict
returns-in_err-calls c =
    let refused : c.from_residual.result ≡ Err c.in_err-calls.field-0.0 = search rules in
    ap reading refused ∙ answered _ _ _ _ c.requires _ c.in_err-calls.ensures

pub returns-in-Yes : goal.returns-in-Yes
unfolding reading told verdict accepted_slip
returns-in-Yes c =
    rw c.contents_of.ensures (answered _ _ _ _ c.requires _ (rw c.in-Yes.is at c.in_ok-calls.ensures))

pub returns-in_default : goal.returns-in_default
unfolding reading
returns-in_default c = not_yes _ _ c.in_default.not-Yes ∙ answered _ _ _ _ c.requires _ c.in_ok-calls.ensures
