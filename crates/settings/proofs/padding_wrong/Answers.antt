-- `padding_wrong` meets its contract: the row says which paddings the algorithm takes.
-- Assumes nothing.
use Rattle.std.proofs.Common.{rules}
use Rattle.bits.specs.Choice.{pick}
use Rattle.settings.proofs.padding_wrong.Goals as goal

pub returns-then-row : goal.returns-then-row
unfolding pick
returns-then-row c = search rules

pub returns-then-padding-lt1 : goal.returns-then-padding-lt1
unfolding pick
returns-then-padding-lt1 c = search rules

pub returns-else-padding-lt1 : goal.returns-else-padding-lt1
unfolding pick
returns-else-padding-lt1 c = search rules
