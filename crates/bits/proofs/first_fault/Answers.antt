-- `first_fault` meets its contract: the tests that are left decide the answer (`fault-at` at each).
-- Assumes nothing.
use Rattle.std.proofs.Common.{sym, ◌∙◌}
use Rattle.std.proofs.lemmas.List.{at_drop_all}
use Rattle.bits.specs.Choice.{pick, first_fault}
use Rattle.bits.proofs.Faults.{fault-at}
use Rattle.bits.proofs.first_fault.Goals as goal

pub returns-then-there : goal.returns-then-there
unfolding pick
returns-then-there g c =
    let t = fault-at c.args.tests.now _ c.loop-there-item.result c.loop-there-test.true c.loop-there-item.is in
    rw c.if-there.true at (sym t ∙ c.loop-there.invariant)

pub loop-there-preserved : goal.loop-there-preserved
unfolding pick
loop-there-preserved g c =
    let t = fault-at c.args.tests.now _ c.loop-there-item.result c.loop-there-test.true c.loop-there-item.is in
    rw c.if-there.false at (sym t ∙ c.loop-there.invariant)

pub returns : goal.returns
unfolding first_fault
returns g c = sym (at_drop_all first_fault c.args.tests.now c.loop-there.there-index c.loop-there-test.false) ∙ c.loop-there.invariant
