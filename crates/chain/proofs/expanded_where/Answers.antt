-- `expanded_where` meets its contract: what `schedule` ensures where the key is used, else zeros as they stand.
-- Assumes nothing.
use mathlib.Core.Path.{refl}
use Rattle.bits.proofs.Choice.{hit, miss}
use Rattle.chain.proofs.expanded_where.Goals as goal

pub returns-then-on : goal.returns-then-on
returns-then-on c = hit _ _ _ _ c.if-on.true c.schedule.ensures

pub returns-else-on : goal.returns-else-on
returns-else-on c = miss _ _ _ _ c.if-on.false refl
