-- `equal_bytes` meets its contract: what is gathered over the pairs of bytes tells whether they are the same (`equal-is`).
-- Assumes nothing.
use Rattle.std.proofs.Common.{rules, tests, sym, ◌∙◌}
use Rattle.std.proofs.lemmas.Bool.{ne_eqb}
use Rattle.std.proofs.lemmas.Iterator.{YieldsList-from_slice, YieldsList-from_zip}
use Rattle.std.proofs.lemmas.Iterator.Consumers.{fold_from_yields_List}
use Rattle.block.proofs.Equality.{with_difference, equal-is, unequal-length}
use Rattle.block.proofs.equal_bytes.Goals as goal

pub returns-then-a-b : goal.returns-then-a-b
returns-then-a-b c =
    equal-is c.args.a.now c.args.b.now _ c.if-a-b.true (λ i. (c.type_inv.a i).fits) (λ i. (c.type_inv.b i).fits)
    (fold_from_yields_List _ with_difference 0 _ c.fold.ensures.ran (YieldsList-from_zip (YieldsList-from_slice c.args.a.now cc) (YieldsList-from_slice c.args.b.now cc)) (λ d x e q k. search (rules, tests)))

pub returns-else-a-b : goal.returns-else-a-b
returns-else-a-b c = ne_eqb _ _ c.if-a-b.false ∙ sym (unequal-length c.args.a.now c.args.b.now c.if-a-b.false)
