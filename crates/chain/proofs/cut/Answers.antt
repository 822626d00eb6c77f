-- `cut` meets its contract: the leftmost bits unless the algorithm is 7 (`cut_at`), and at 7 the definition computes.
-- Assumes nothing.
use mathlib.Core.Path.{sym, ap, ◌∙◌}
use native.Mathlib.Omega.{arith}
use lib.ListN.{take}
use Rattle.bits.specs.Choice.{pick}
use Rattle.bits.specs.Str.{bytes_bits}
use Rattle.block.specs.Block.{filled_block}
use Rattle.cipher.specs.Ciphers.{cipher_at}
use Rattle.cipher.proofs.Laws.{width-at}
use Rattle.mac.specs.Algorithm.{algorithm_at, steps}
use Rattle.chain.proofs.Rows.{cut_at}
use Rattle.chain.proofs.cut.Goals as goal

pub returns-then-k-ne7 : goal.returns-then-k-ne7
returns-then-k-ne7 c K =
    let width = c in
    let a = width.args in
    let g = take (cipher_at a.k.now.cipher).n (bytes_bits a.g) in
    (rw width.width-n.ensures at c.leftmost_of.ensures)
    ∙ ap filled_block (sym (cut_at (cipher_at a.k.now.cipher) K a.complete a.k.now.settings.m g a.k.now.settings.algorithm c.if-k-ne7.true))

pub returns-then-complete : goal.returns-then-complete
unfolding algorithm_at steps pick
returns-then-complete c =
    let tested = c in
    rw (tested.if-k-ne7.false, c.if-complete.true) (λ K. rw tested.width-n.ensures at c.leftmost_of-then-complete.ensures)

pub rightmost_of-requires : goal.rightmost_of-requires
rightmost_of-requires c = omega (arith, width-at c.args.k.now.cipher)

pub returns : goal.returns
unfolding algorithm_at steps pick
returns c =
    let tested = c in
    rw (tested.if-k-ne7.false, c.if-complete.false) (λ K. rw tested.width-n.ensures at c.rightmost_of.ensures)
