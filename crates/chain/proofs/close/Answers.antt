-- `close` meets its contract: the mark fills the block that waits (`close-plain`) or stands alone after it (`close-spill`).
-- Assumes nothing.
use mathlib.Core.Path.{◌≡◌, sym, ◌∙◌}
use native.Mathlib.Omega.{arith}
use lib.ListN.{length}
use Rattle.cipher.proofs.Laws.{width-at}
use Rattle.chain.specs.Chain.{width_of, steps_of}
use Rattle.chain.proofs.Closing.{close-plain, close-spill}
use borrow.Author.Rules.{rules}
use Rattle.chain.proofs.close.Lts
use Rattle.chain.proofs.close.Reads
use Rattle.chain.proofs.close.Tie
use Rattle.chain.proofs.close.Goals as goal

held-long : (c : Lts.Start Tie.the-claims Reads.Pre Reads.Post) → length c.args.hold.held ≡ 16
held-long c = search rules

pub advance-h-requires : goal.advance-h-requires
advance-h-requires c =
    let start = c.before.before.before.before.before.before.before.before.before in
    omega (arith, width-at start.args.k.now.cipher, held-long start)

pub returns-then-spills : goal.returns-then-spills
returns-then-spills c K e =
    let waits = c.before.before.before.before.before.before in
    let start = waits.before.before.before.before.before in
    let a = start.args in
    let width = waits.before.width-n.ensures in
    let full = sym c.before.before.before.before.before.spills.ensures ∙ c.before.before.before.before.if-spills.true in
    c.ended.ensures K e
    ∙ close-spill (width_of a.k.now) (width-at a.k.now.cipher) (steps_of a.k.now K) a.k.now.settings.padding a.k.now.settings.m a.total _ a.hold _ waits.held_bits-waits.ensures waits.before.before.mark-p.ensures (held-long start) _
    (rw width at full) (rw c.before.before.before.begun_at-begun.ensures at (c.before.advance-h.ensures K e))

pub returns : goal.returns
returns c K e =
    let waits = c.before.before.before.before in
    let start = waits.before.before.before.before.before in
    let a = start.args in
    let width = waits.before.width-n.ensures in
    let space = sym c.before.before.before.spills.ensures ∙ c.before.before.if-spills.false in
    (rw width at (c.ended-2.ensures K e))
    ∙ close-plain (width_of a.k.now) (width-at a.k.now.cipher) (steps_of a.k.now K) a.k.now.settings.padding a.k.now.settings.m a.total _ a.hold _ waits.held_bits-waits.ensures waits.before.before.mark-p.ensures (held-long start) _
    (rw width at space) c.before.join-b.ensures
