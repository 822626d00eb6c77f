-- `front` meets its contract: what is there of sixteen bytes is put into zeros (`front_is`).
-- Assumes nothing.
use Rattle.block.proofs.Fronts.{front_is}
use Rattle.block.proofs.front.Goals as goal

pub returns : goal.returns
returns c = front_is c.args.s.now _ (rw c.min.ensures at c.after.ensures)
