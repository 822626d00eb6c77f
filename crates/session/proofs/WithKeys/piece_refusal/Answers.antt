-- `piece_refusal` meets its contract: the first of the tests is the first of the faults (`first-number`), test by test.
-- Assumes nothing.
use Rattle.std.proofs.Common.{ap, ◌∙◌, [], ◌∷◌}
use Rattle.bits.specs.Choice.{◌given◌, first_of}
use Rattle.refusals.specs.Number.{number_in, faults_of}
use Rattle.refusals.proofs.Number.{first-number}
use Rattle.session.specs.Calls.{piece_faults}
use Rattle.session.proofs.WithKeys.piece_refusal.Goals as goal

pub returns : goal.returns
unfolding piece_faults faults_of
returns c =
    ap number_in c.first_fault.ensures
    ∙ first-number _
    ∙ λ i. first_of (
    11 given c.counts_closed.ensures i ∷
    11 given c.late_bits.ensures i ∷
    7 given c.length_wrong.ensures i ∷
    8 given c.too_many_more.ensures i ∷
    12 given c.passes_declared.ensures i ∷
    [])
