-- `turn_right` meets its contract: the first n bits at a block's end, and a window 127 bits in (`turn-right-is`).
-- Assumes nothing.
use Rattle.std.proofs.Common.{◌≡◌, length, arith, ap, ◌∙◌, rules}
use Rattle.bits.specs.Str.{bytes_bits, leftmost}
use Rattle.bits.proofs.Packed.{length-bytes_bits}
use Rattle.block.specs.Block.{filled_block}
use Rattle.block.proofs.Widths.{turn-right-is}
use Rattle.block.proofs.turn_right.Goals as goal

pub returns : goal.returns
unfolding leftmost
returns c =
    let long : length c.args.b ≡ 16 = search rules in
    c.leftmost.ensures
    ∙ ap filled_block (turn-right-is (bytes_bits c.args.b) c.args.n (omega (arith, length-bytes_bits c.args.b)) c.requires.1 c.requires.0 _ _ c.window.ensures c.window-2.ensures)
