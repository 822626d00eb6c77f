-- `unpack` meets its contract: what `keys::unpack` ensures for the agreement's master and algorithm.
-- Assumes nothing.
use Rattle.settings.proofs.unpack.Goals as goal

pub returns : goal.returns
returns c = c.unpack.ensures
