-- `double` meets its contract: the first byte tells the bit that is shifted out (`double-low`, `double-high`).
-- Assumes nothing.
use Rattle.std.proofs.Common.{get_or, Fits, w8, rules}
use Rattle.block.proofs.Windows.{blank}
use Rattle.block.proofs.Widths.{double-low, double-high}
use Rattle.block.proofs.double.Goals as goal

pub returns-then-b-lt128 : goal.returns-then-b-lt128
unfolding blank
returns-then-b-lt128 c =
    double-low c.args.b c.args.n (search rules) c.requires.1 c.requires.0 c.args.p _ _ c.leftmost.ensures c.window-w.ensures c.if-b-lt128.true

pub returns-else-b-lt128 : goal.returns-else-b-lt128
unfolding blank
returns-else-b-lt128 c =
    let byte : Fits w8 (get_or c.args.b 0 0) = search rules in
    double-high c.args.b c.args.n (search rules) c.requires.1 c.requires.0 c.args.p _ _ c.leftmost.ensures c.window-w.ensures _ _ c.if-b-lt128.false byte.fits c.number.ensures c.xor.ensures
