-- `first_fault` meets its contract: the tests that are left decide the answer.
-- Assumes nothing.
use Rattle.std.proofs.Common.{◌≡◌, drop}
use Rattle.bits.specs.Choice.{first_fault}
use Rattle.bits.proofs.first_fault.Given as goal

abbrev pub invariant-loop-there : goal.invariant-loop-there
invariant-loop-there g l = first_fault (drop l.there-index l.tests) ≡ first_fault l.tests
