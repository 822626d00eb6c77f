-- `first_through` meets its contract: the block is the part (`part-alone`), or what waits with the part after it (`part-after`).
-- Assumes nothing.
use mathlib.Core.Path.{◌≡◌, ap₂, ◌∙◌}
use mathlib.Core.Bool.{Bool}
use native.Mathlib.Omega.{arith}
use lib.ListN.{length, take}
use Rattle.bits.specs.Str.{Bits, bytes_bits, xor_b}
use Rattle.cipher.proofs.Laws.{width-at}
use Rattle.mac.specs.Algorithm.{step}
use Rattle.chain.specs.Chain.{width_of, steps_of}
use Rattle.chain.proofs.Feeding.{part-alone, part-after}
use borrow.Author.Rules.{rules}
use Rattle.chain.proofs.first_through.Lts
use Rattle.chain.proofs.first_through.Reads
use Rattle.chain.proofs.first_through.Tie
use Rattle.chain.proofs.first_through.Goals as goal

held-long : (c : Lts.Start Tie.the-claims Reads.Pre Reads.Post) → length c.args.hold.held ≡ 16
held-long c = search rules

pub returns-then-waits-eq0 : goal.returns-then-waits-eq0
returns-then-waits-eq0 c K e =
    let begun = c.before.before.before in
    let start = begun.before.before.before.before in
    let a = start.args in
    let n = width_of a.k.now in
    c.advance.ensures K e
    ∙ ap₂ (λ (b : Bool) (u : Bits). (step (steps_of a.k.now K) b (xor_b u (take n (bytes_bits a.hold.value)))).out) begun.begun_at-begun.ensures
    (part-alone (bytes_bits a.hold.held) a.part.now n a.waits start.requires c.before.if-waits-eq0.true)

pub after-b-requires : goal.after-b-requires
after-b-requires c = omega (arith, width-at c.before.before.before.before.before.args.k.now.cipher)

pub advance-requires-2 : goal.advance-requires-2
advance-requires-2 c =
    let long : length c.before.after-b.result ≡ 16 = search rules in
    omega (arith, width-at c.before.before.before.before.before.before.before.args.k.now.cipher, long)

pub returns : goal.returns
returns c K e =
    let begun = c.before.before.before.before.before in
    let start = begun.before.before.before.before in
    let a = start.args in
    let n = width_of a.k.now in
    c.advance-2.ensures K e
    ∙ ap₂ (λ (b : Bool) (u : Bits). (step (steps_of a.k.now K) b (xor_b u (take n (bytes_bits a.hold.value)))).out) begun.begun_at-begun.ensures
    (part-after a.hold.held a.part.now _ n a.waits (width-at a.k.now.cipher) (held-long start) start.requires c.before.before.after-b.ensures)
