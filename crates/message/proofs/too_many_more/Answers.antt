-- `too_many_more` meets its contract: the sum passes the border where the others do, or these pass what is left (`past-rest`).
-- Assumes nothing.
use mathlib.Core.Path.{◌∙◌}
use borrow.Author.Tests.{lt-ltb}
use Rattle.message.proofs.Past.{past-alone, past-rest}
use Rattle.message.proofs.too_many_more.Goals as goal

pub returns-then-total-gt-MOST_BITS : goal.returns-then-total-gt-MOST_BITS
returns-then-total-gt-MOST_BITS c = lt-ltb 8388608 c.args.total c.if-total-gt-MOST_BITS.true ∙ past-alone 8388608 c.args.total c.args.bits c.if-total-gt-MOST_BITS.true

pub returns-else-total-gt-MOST_BITS : goal.returns-else-total-gt-MOST_BITS
returns-else-total-gt-MOST_BITS c = past-rest 8388608 c.args.total c.args.bits c.if-total-gt-MOST_BITS.false
