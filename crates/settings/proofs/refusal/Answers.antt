-- `refusal` meets its contract: the first of the tests is the first of the faults (`first-number`), test by test.
-- Assumes nothing.
use Rattle.std.proofs.Common.{ap, ◌∙◌, [], ◌∷◌}
use Rattle.bits.specs.Choice.{◌given◌, first_of}
use Rattle.refusals.specs.Number.{number_in, faults_of}
use Rattle.refusals.proofs.Number.{first-number}
use Rattle.settings.specs.Faults.{settings_refusal, settings_faults}
use Rattle.settings.proofs.refusal.Goals as goal

pub returns : goal.returns
unfolding settings_refusal settings_faults faults_of
returns c =
    ap number_in c.first_fault.ensures
    ∙ first-number _
    ∙ λ i. first_of (
    1 given c.algorithm_wrong.ensures i ∷
    2 given c.padding_wrong.ensures i ∷
    3 given c.size_wrong.ensures i ∷
    4 given c.bytes_wrong.ensures i ∷
    5 given c.same.ensures i ∷
    [])
