-- `full_only` meets its contract: one test.
-- Assumes nothing.
use mathlib.Core.Path.{refl, sym, ◌∙◌}
use borrow.Author.Tests.{eq-eqb, ne_eqb}
use Rattle.bits.proofs.Choice.{hit, miss}
use Rattle.tag.specs.Restore.{full_only}
use Rattle.tag.proofs.full_only.Goals as goal

pub returns-then-agreement-width : goal.returns-then-agreement-width
unfolding full_only
returns-then-agreement-width c = hit _ _ _ _ (eq-eqb _ _ (c.if-agreement-width.true ∙ c.width.ensures)) refl

pub returns : goal.returns
unfolding full_only
returns c = miss _ _ _ _ (ne_eqb _ _ (λ e. c.if-agreement-width.false (e ∙ sym c.width.ensures))) refl
