-- `mask` meets its contract: the double of the block, or the double of that.
-- Assumes nothing.
use mathlib.Core.Path.{ap, ◌∙◌}
use native.Mathlib.Omega.{arith}
use Rattle.bits.specs.Str.{double}
use Rattle.bits.proofs.Choice.{hit, miss}
use Rattle.cipher.specs.Ciphers.{cipher_at}
use Rattle.cipher.proofs.Laws.{width-at}
use Rattle.chain.proofs.Firsts.{first-double}
use borrow.Author.Rules.{rules}
use Rattle.chain.proofs.mask.Goals as goal

pub double-k1-requires : goal.double-k1-requires
double-k1-requires c = let W = width-at c.args.cipher in (omega (arith, W), omega (arith, W))

pub returns-then-complete : goal.returns-then-complete
returns-then-complete c =
    let a = c.args in
    let width = c.width-n.ensures in
    let poly = c.poly-p.ensures in
    hit _ _ _ _ c.if-complete.true
    (first-double a.cipher a.s c.double-k1.result (search rules) (cipher_at a.cipher).poly (rw (width, poly) at c.double-k1.ensures))

pub double-requires : goal.double-requires
double-requires c = let W = width-at c.args.cipher in (omega (arith, W), omega (arith, W))

pub returns-else-complete : goal.returns-else-complete
returns-else-complete c =
    let a = c.args in
    let p = (cipher_at a.cipher).poly in
    let width = c.width-n.ensures in
    let poly = c.poly-p.ensures in
    let k1 = c.double-k1 in
    let once = first-double a.cipher a.s k1.result (search rules) p (rw (width, poly) at k1.ensures) in
    miss _ _ _ _ c.if-complete.false
    (first-double a.cipher k1.result c.double.result (search rules) p (rw (width, poly) at c.double.ensures) ∙ ap (double p) once)
