-- `turned` meets its contract: one of two turns, by the test.
-- Assumes nothing.
use native.Mathlib.Omega.{arith}
use Rattle.bits.proofs.Choice.{hit, miss}
use Rattle.cipher.proofs.Laws.{width-at}
use Rattle.chain.proofs.Firsts.{first-rotl, first-rotr}
use borrow.Author.Rules.{rules}
use Rattle.chain.proofs.turned.Goals as goal

pub turn_right-requires : goal.turn_right-requires
turn_right-requires c = let W = width-at c.args.cipher in (omega (arith, W), omega (arith, W))

pub returns-then-complete : goal.returns-then-complete
returns-then-complete c =
    let a = c.args in
    let turn = rw c.width-n.ensures at c.turn_right.ensures in
    hit _ _ _ _ c.if-complete.true (first-rotr a.cipher a.z c.turn_right.result (search rules) turn)

pub turn_left-requires : goal.turn_left-requires
turn_left-requires c = let W = width-at c.args.cipher in (omega (arith, W), omega (arith, W))

pub returns-else-complete : goal.returns-else-complete
returns-else-complete c =
    let a = c.args in
    let turn = rw c.width-n.ensures at c.turn_left.ensures in
    miss _ _ _ _ c.if-complete.false (first-rotl a.cipher a.z c.turn_left.result (search rules) turn)
