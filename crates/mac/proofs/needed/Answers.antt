-- `needed` meets its contract: the code's width is the cipher's, and a division rounded up is the count (`needed_ceiling`).
-- Assumes nothing.
use Rattle.std.proofs.Common.{arith}
use Rattle.cipher.proofs.Laws.{lawful-at}
use Rattle.mac.proofs.Padded.{needed, needed_ceiling}
use Rattle.mac.proofs.needed.Goals as goal

pub div_ceil-requires : goal.div_ceil-requires
div_ceil-requires c = omega (arith, (lawful-at c.args.cipher).wide, c.width.ensures)

pub returns : goal.returns
unfolding needed
returns c = rw (c.max.ensures, c.div_ceil.ensures, c.width.ensures) (needed_ceiling _ (lawful-at c.args.cipher).wide c.args.bits)
