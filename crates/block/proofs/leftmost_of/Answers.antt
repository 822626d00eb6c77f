-- `leftmost_of` meets its contract: the shorter of two truncations decides.
-- Assumes nothing.
use Rattle.std.proofs.Common.{ap, ◌∙◌}
use Rattle.bits.specs.Str.{bytes_bits, leftmost}
use Rattle.bits.proofs.Lists.{take-take_min}
use Rattle.block.specs.Block.{filled_block}
use Rattle.block.proofs.leftmost_of.Goals as goal

pub returns : goal.returns
unfolding leftmost
returns c = c.leftmost.ensures ∙ ap filled_block (rw c.min.ensures (take-take_min c.args.n c.args.m (bytes_bits c.args.b)))
