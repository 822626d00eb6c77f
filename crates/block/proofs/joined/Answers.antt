-- `joined` meets its contract: a window moves the first n bits of a to the right end, and a second one moves b in behind them
-- (`join_is`).
-- Assumes nothing.
use Rattle.bits.specs.Str.{bytes_bits}
use Rattle.block.proofs.Windows.{blank, join_is}
use Rattle.block.proofs.joined.Goals as goal

pub returns : goal.returns
unfolding blank
returns c = join_is (bytes_bits c.args.a) (bytes_bits c.args.b) _ _ c.args.n c.requires c.window.ensures c.window-2.ensures
