-- `begin` meets its contract: the start, or the length block gone through, and no bits wait (`begins`).
-- Assumes nothing.
use mathlib.Core.Path.{◌≡◌, ap, ap₂, ◌∙◌}
use native.Mathlib.Omega.{arith}
use borrow.Author.Tests.{eq-eqb, ne_eqb}
use Rattle.bits.specs.Str.{Bits, bits_n, xor_b, leftmost}
use Rattle.bits.proofs.Choice.{hit, miss}
use Rattle.bits.proofs.Numbers.{length-bits_n}
use Rattle.block.specs.Block.{filled_block}
use Rattle.block.proofs.Windows.{blank}
use Rattle.cipher.specs.Ciphers.{cipher_at}
use Rattle.cipher.proofs.Widths.{take-filled}
use Rattle.cipher.proofs.Laws.{width-at, lawful-at}
use Rattle.mac.specs.Algorithm.{algorithm_at, step}
use lib.ListN.{length, take}
use Rattle.chain.specs.Chain.{steps_of, width_of}
use Rattle.chain.proofs.Rows.{begins}
use mathlib.Core.Bool.{false}
use borrow.Author.Rules.{rules}
use Rattle.chain.proofs.begin.Goals as goal

pub number-b-requires : goal.number-b-requires
number-b-requires c = omega (arith, width-at c.args.k.now.cipher)

pub advance-requires : goal.advance-requires
advance-requires c =
    let long : length c.number-b.result ≡ 16 = search rules in
    omega (arith, width-at c.args.k.now.cipher, long)

pub returns-then-k-eq3 : goal.returns-then-k-eq3
unfolding leftmost blank
returns-then-k-eq3 c K e =
    let tested = c in
    let width = tested in
    let a = width.args in
    let k = a.k.now in
    let n = width_of k in
    let start = tested.start_value-h.ensures K e in
    let counted = ap (take n) (rw width.width-n.ensures at c.number-b.ensures) ∙ take-filled n (bits_n n a.declared) (length-bits_n n a.declared) in
    begins (cipher_at k.cipher) (lawful-at k.cipher) (algorithm_at k.settings.algorithm) K a.declared k.settings.padding _ (search rules)
    ((rw width.width-n.ensures at c.leftmost.ensures)
    ∙ ap filled_block (hit _ _ _ _ (eq-eqb _ 3 tested.if-k-eq3.true) (c.advance.ensures K e ∙ ap₂ (λ (u v : Bits). (step (steps_of k K) false (xor_b u v)).out) counted start)))

pub returns : goal.returns
unfolding leftmost blank
returns c K e =
    let width = c in
    let a = width.args in
    let k = a.k.now in
    begins (cipher_at k.cipher) (lawful-at k.cipher) (algorithm_at k.settings.algorithm) K a.declared k.settings.padding _ (search rules)
    ((rw width.width-n.ensures at c.leftmost-2.ensures)
    ∙ ap filled_block (miss _ _ _ _ (ne_eqb _ 3 c.if-k-eq3.false) (c.start_value-h.ensures K e)))
