-- `refusal` meets its contract: the first of the tests is the first of the faults (`first-number`), test by test.
-- Assumes nothing.
use Rattle.std.proofs.Common.{ap, ◌∙◌, [], ◌∷◌}
use Rattle.bits.specs.Choice.{◌given◌, first_of}
use Rattle.refusals.specs.Number.{number_in, faults_of}
use Rattle.refusals.proofs.Number.{first-number}
use Rattle.message.specs.Faults.{message_faults}
use Rattle.message.proofs.refusal.Goals as goal

pub returns : goal.returns
unfolding message_faults faults_of
returns c =
    ap number_in c.first_fault.ensures
    ∙ first-number _
    ∙ λ i. first_of (
    7 given c.length_wrong.ensures i ∷
    8 given c.too_many_bits.ensures i ∷
    9 given c.too_few_blocks.ensures i ∷
    10 given c.args.ten ∷
    [])
