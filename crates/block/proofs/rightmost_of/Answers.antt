-- `rightmost_of` meets its contract: a window passes over the bits before the last m (`rightmost-is`).
-- Assumes nothing.
use Rattle.std.proofs.Common.{◌≡◌, length, arith, rules}
use Rattle.bits.specs.Str.{bytes_bits}
use Rattle.bits.proofs.Packed.{length-bytes_bits}
use Rattle.block.proofs.Windows.{blank}
use Rattle.block.proofs.Widths.{rightmost-is}
use Rattle.block.proofs.rightmost_of.Goals as goal

pub returns : goal.returns
unfolding blank
returns c =
    let long : length c.args.b ≡ 16 = search rules in
    rightmost-is (bytes_bits c.args.b) c.args.n (omega (arith, length-bytes_bits c.args.b)) c.requires c.args.m _ _ c.leftmost.ensures (rw c.saturating_sub.ensures at c.window.ensures)
