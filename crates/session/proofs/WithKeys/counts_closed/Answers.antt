-- `counts_closed` meets its contract: the first of the tests is the first of the faults (`first-number`), test by test.
-- Assumes nothing.
use Rattle.std.proofs.Common.{ℕ, not, eqb, ap, ◌∙◌, [], ◌∷◌}
use native.Mathlib.Nat.{add-zero}
use Rattle.bits.specs.Choice.{◌given◌, first_of}
use Rattle.refusals.specs.Number.{number_in, faults_of}
use Rattle.refusals.proofs.Number.{first-number}
use Rattle.session.specs.Record.{passes_declared, closed_faults, counts_closed}
use Rattle.session.proofs.Answers.{told_by_number}
use Rattle.session.proofs.WithKeys.counts_closed.Goals as goal

pub returns : goal.returns
unfolding counts_closed closed_faults faults_of
returns c =
    let s = c.args.self.now.session in
    c.is_err.ensures.value ∙ told_by_number _
    ∙ ap (λ (n : ℕ). not (eqb n 0))
    (ap number_in c.first_fault.ensures
    ∙ first-number _
    ∙ λ i. first_of (
    11 given c.phase_unfit.ensures i ∷
    11 given c.settings_unsound.ensures i ∷
    11 given c.too_many_bits.ensures i ∷
    11 given c.declared_too_long.ensures i ∷
    11 given (c.passes_declared.ensures ∙ ap (passes_declared s.agreement.padding s.declared) (add-zero s.total)) i ∷
    11 given c.stray_bit.ensures i ∷
    []))
