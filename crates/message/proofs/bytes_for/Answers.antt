-- `bytes_for` meets its contract: dividing and rounding up.
-- Assumes nothing.
use native.Mathlib.Omega.{arith}
use Rattle.mac.specs.Tag.{bytes_for}
use Rattle.message.proofs.bytes_for.Goals as goal

pub returns : goal.returns
unfolding bytes_for
returns c = omega (arith, c.div_ceil.ensures)
