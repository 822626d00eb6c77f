-- `funnel` meets its contract: two shifts put the bits side by side (`funnel-unbounded`).
-- Assumes nothing.
use Rattle.std.proofs.Common.{lit<}
use Rattle.bits.proofs.Shifts.{funnel-unbounded}
use Rattle.bits.proofs.funnel.Goals as goal

pub returns : goal.returns
returns c = rw (c.unbounded_shl.ensures, c.unbounded_shr.ensures, c.saturating_sub.ensures) (funnel-unbounded 8 c.args.s c.args.x c.args.y (lit< tt) c.ranges.y.fits)
