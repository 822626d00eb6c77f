-- `leftmost` meets its contract: the first m bits joined with zeros (`leftmost-is`).
-- Assumes nothing.
use Rattle.std.proofs.Common.{◌≡◌, length, arith, rules}
use Rattle.bits.specs.Str.{bytes_bits}
use Rattle.bits.proofs.Packed.{length-bytes_bits}
use Rattle.block.proofs.Windows.{blank, leftmost-is}
use Rattle.block.proofs.leftmost.Goals as goal

pub returns : goal.returns
unfolding blank
returns c =
    let long : length c.args.b ≡ 16 = search rules in
    leftmost-is (bytes_bits c.args.b) _ c.args.m (omega (arith, length-bytes_bits c.args.b)) c.join.ensures
