-- `first` meets its contract: the tests that are left decide the answer (`first-at` at each).
-- Assumes nothing.
use mathlib.Core.Path.{◌≡◌}
use lib.ListN.{drop}
use Rattle.bits.specs.Choice.{first_of, faults}
use Rattle.bits.proofs.first.Given as goal

abbrev pub invariant-loop-i : goal.invariant-loop-i
invariant-loop-i l = first_of (faults (drop l.i l.numbers) (drop l.i l.there)) ≡ first_of (faults l.numbers l.there)
