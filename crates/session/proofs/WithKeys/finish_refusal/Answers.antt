-- `finish_refusal` meets its contract: the first of the tests is the first of the faults (`first-number`), test by test.
-- Assumes nothing.
use Rattle.std.proofs.Common.{ap, ◌∙◌, [], ◌∷◌}
use Rattle.bits.specs.Choice.{◌given◌, first_of}
use Rattle.refusals.specs.Number.{number_in, faults_of}
use Rattle.refusals.proofs.Number.{first-number}
use Rattle.settings.specs.declared.Settings.{Settings}
use Rattle.message.specs.Faults.{too_few_blocks}
use Rattle.session.specs.Calls.{end_faults}
use Rattle.session.proofs.WithKeys.finish_refusal.Goals as goal

pub returns : goal.returns
unfolding end_faults faults_of
returns c =
    let a = c.args in
    ap number_in c.first_fault.ensures
    ∙ first-number _
    ∙ λ i. first_of (
    11 given c.counts_closed.ensures i ∷
    11 given a.other ∷
    12 given c.falls_short.ensures i ∷
    9 given (c.too_few_blocks.ensures ∙ ap (λ (S : Settings). too_few_blocks S a.self.now.session.total) c.of.ensures) i ∷
    10 given a.ten ∷
    [])
