-- `held_bits` meets its contract: the test for zero decides.
-- Assumes nothing.
use mathlib.Core.Path.{refl, ap}
use Prim.Native.Nat.{ℕ, ◌+◌, ◌-◌, ◌%◌}
use native.Mathlib.Nat.{mod-le}
use native.Mathlib.Omega.{arith}
use borrow.Author.Tests.{eq-eqb, ne_eqb}
use Rattle.bits.proofs.Choice.{hit, miss}
use Rattle.cipher.proofs.Laws.{width-at}
use Rattle.chain.specs.Chain.{held_bits}
use Rattle.chain.proofs.held_bits.Goals as goal

pub returns-then-total-eq0 : goal.returns-then-total-eq0
unfolding held_bits
returns-then-total-eq0 c = hit _ _ _ _ (eq-eqb _ 0 c.if-total-eq0.true) refl

pub nonzero_rem-result : goal.nonzero_rem-result
nonzero_rem-result c = omega (arith, width-at c.args.cipher)

pub overflow_add-result : goal.overflow_add-result
overflow_add-result c = omega (arith, mod-le (c.args.total - 1) c.width-n.result)

pub returns : goal.returns
unfolding held_bits
returns c = miss _ _ _ _ (ne_eqb _ 0 c.if-total-eq0.false) (ap (λ (k : ℕ). (c.args.total - 1) % k + 1) c.width-n.ensures)
