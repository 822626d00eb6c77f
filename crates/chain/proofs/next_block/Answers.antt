-- `next_block` meets its contract: the two cases are the definition's.
-- Assumes nothing.
use Rattle.std.proofs.Common.{rules}
use Rattle.bits.specs.Choice.{pick}
use Rattle.chain.proofs.next_block.Goals as goal

pub returns-then-backwards : goal.returns-then-backwards
unfolding pick
returns-then-backwards c = search rules

pub returns-else-backwards : goal.returns-else-backwards
unfolding pick
returns-else-backwards c = search rules
