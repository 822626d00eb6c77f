-- `pair` meets its contract: the first half is put, then the second (`pair_is`).
-- Assumes nothing.
use Rattle.std.proofs.Common.{rules}
use Rattle.block.proofs.Fronts.{pair_is}
use Rattle.block.proofs.pair.Goals as goal

pub returns : goal.returns
returns c = rw (c.copy_from_slice.ensures.after, c.copy_from_slice-2.ensures.after) (pair_is c.args.a c.args.b _ (search rules) (search rules) (search rules))
