-- `waiting_block` meets its contract: the bytes that hold the bits are put after what waits, and cut after the last bit
-- (`waiting-is`).
-- Assumes nothing.
use mathlib.Core.Path.{◌≡◌, sym}
use lib.ListN.{length}
use Rattle.chain.proofs.Feeding.{waiting-long, waiting-fits, waiting-is}
use borrow.Author.Rules.{rules}
use Rattle.chain.proofs.waiting_block.Lts
use Rattle.chain.proofs.waiting_block.Reads
use Rattle.chain.proofs.waiting_block.Tie
use Rattle.chain.proofs.waiting_block.Goals as goal

held-long : (c : Lts.Start Tie.the-claims Reads.Pre Reads.Post) → length c.args.held ≡ 16
held-long c = search rules

pub slice_bounds-after-end : goal.slice_bounds-after-end
slice_bounds-after-end c =
    let start = c in
    let a = start.args in
    sym (waiting-long a.held a.bytes.now a.waits a.bits (held-long c.before.before) start.requires.0 start.requires.1 start.requires.2)

pub after-b-requires : goal.after-b-requires
after-b-requires c =
    let start = c in
    let a = start.args in
    waiting-fits a.held a.bytes.now a.waits a.bits (held-long c.before.before) start.requires.0 start.requires.1 start.requires.2

pub returns : goal.returns
returns c =
    let start = c in
    let a = start.args in
    waiting-is a.held a.bytes.now a.waits a.bits (held-long c.before.before.before.before) start.requires.0 start.requires.1 start.requires.2 _ _ c.after-b.ensures c.leftmost.ensures
