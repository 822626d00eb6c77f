-- `settings_unsound` meets its contract: the refusal that a start would give for as many key bytes as are needed.
-- Assumes nothing.
use Rattle.std.proofs.Common.{ℕ, not, eqb, ap, ◌∙◌}
use Rattle.settings.specs.Faults.{settings_refusal}
use Rattle.session.proofs.Answers.{told_by_number}
use Rattle.session.proofs.WithKeys.settings_unsound.Goals as goal

pub returns : goal.returns
returns c =
    let self = c.args.self.now in
    c.is_err.ensures.value ∙ told_by_number _
    ∙ ap (λ (n : ℕ). not (eqb n 0)) (c.refusal.ensures ∙ λ i. settings_refusal self.session.agreement (c.bytes_of-needed.ensures i) (self.own.0 i))
