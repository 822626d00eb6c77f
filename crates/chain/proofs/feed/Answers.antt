-- `feed` meets its contract: bits that fit wait (`feed-few`), else a block, whole blocks and a rest (`feed-many`).
-- Assumes nothing.
use mathlib.Core.Path.{◌≡◌, refl, sym, ap, ◌∙◌}
use Prim.Native.Nat.{ℕ, ◌%◌}
use native.Mathlib.Omega.{arith}
use lib.ListN.{length}
use Rattle.bits.specs.Choice.{pick}
use Rattle.bits.specs.Str.{words}
use Rattle.cipher.specs.Ciphers.{enc_at}
use Rattle.cipher.proofs.Widths.{Width}
use Rattle.cipher.proofs.Laws.{width-at}
use Rattle.chain.specs.Chain.{width_of, steps_of, held_bits, walked}
use Rattle.chain.proofs.Rows.{inner-is}
use Rattle.chain.proofs.Feeding.{held-le, held-edge, whole_le, whole-fits, whole_in, whole-bytes-in, Lies, lies, feed-few, feed-many}
use borrow.Author.Rules.{rules}
use Rattle.chain.proofs.feed.Lts
use Rattle.chain.proofs.feed.Reads
use Rattle.chain.proofs.feed.Tie
use Rattle.chain.proofs.feed.Goals as goal

held-long : (c : Lts.Start Tie.the-claims Reads.Pre Reads.Post) → length c.args.hold.held ≡ 16
held-long c = search rules

-- from where the bits that wait are counted: the width and their number, as the code has them
abbrev at-start : Lts.After-held_bits Tie.the-claims Reads.Pre Reads.Post → Lts.Start Tie.the-claims Reads.Pre Reads.Post
at-start c = c.before.before.before.before.before

wide : (c : Lts.After-held_bits Tie.the-claims Reads.Pre Reads.Post) → Width c.width-n.result
wide c = rw c.width-n.ensures (width-at (at-start c).args.k.now.cipher)

wait : (c : Lts.After-held_bits Tie.the-claims Reads.Pre Reads.Post) → c.held_bits-waits.result ≡ held_bits c.width-n.result (at-start c).args.total
wait c = c.held_bits-waits.ensures ∙ ap (λ (n : ℕ). held_bits n (at-start c).args.total) (sym c.width-n.ensures)

pub overflow_sub-space : goal.overflow_sub-space
overflow_sub-space c = omega (arith, wait c.before, held-le c.width-n.result (at-start c.before).args.total (omega (arith, wide c.before)))

pub waiting_block-requires : goal.waiting_block-requires
waiting_block-requires c =
    let w = c in
    let start = at-start c.before.before.before in
    let n = w.width-n.result in
    let least = held-le n start.args.total (omega (arith, wide c.before.before.before)) in
    (omega (arith, wide c.before.before.before, wait c.before.before.before, least), start.requires.1, λ some. rw (wait c.before.before.before) (held-edge n start.args.total (wide c.before.before.before) (start.requires.2 some)))

pub returns-then-bits-space : goal.returns-then-bits-space
returns-then-bits-space c K e =
    let w = c in
    let start = at-start c.before.before.before.before in
    let a = start.args in
    let width = w.width-n.ensures in
    feed-few (width_of a.k.now) (width-at a.k.now.cipher) (steps_of a.k.now K) a.k.now.settings.padding a.total a.hold a.bytes.now w.held_bits-waits.result a.bits w.held_bits-waits.ensures (held-long c.before.before.before.before.before.before.before.before.before) start.requires.1
    c.leftmost.result c.waiting_block.result (search rules) (search rules) (rw width at c.if-bits-space.true) (rw width at c.leftmost.ensures) c.waiting_block.ensures

-- where more bits come than there is space for, the parts of the slice lie as the code takes them
edge : (c : Lts.Else1 Tie.the-claims Reads.Pre Reads.Post) → (at-start c.before).args.total % 8 ≡ 0
edge c = (at-start c.before).requires.2 (omega (arith, c.if-bits-space.false))

lie : (c : Lts.Else1 Tie.the-claims Reads.Pre Reads.Post) → let a = (at-start c.before).args in Lies c.width-n.result c.held_bits-waits.result a.bits a.bytes.now
lie c =
    let start = at-start c.before in
    let a = start.args in
    lies _ a.total _ a.bits a.bytes.now (wide c.before) (wait c.before) start.requires.1 c.if-bits-space.false (edge c)

pub slice_bounds-first_through-end : goal.slice_bounds-first_through-end
slice_bounds-first_through-end c = sym (lie c.before).long

pub first_through-h-requires : goal.first_through-h-requires
first_through-h-requires c = (lie c.before).fills ∙ c.width-n.ensures

pub nonzero_div-blocks : goal.nonzero_div-blocks
nonzero_div-blocks c = omega (arith, wide c.before.before.before.before)

pub overflow_mul-done : goal.overflow_mul-done
overflow_mul-done c =
    let start = at-start c.before.before.before.before in
    whole-fits _ _ start.args.bits (omega arith) start.ranges.bits

pub through-c-requires : goal.through-c-requires
through-c-requires c =
    let many = c in
    whole_in _ _ _ _ _ many.width-n.ensures (omega arith) (lie c.before.before.before.before).holds

pub slice_bounds-waiting_block-count : goal.slice_bounds-waiting_block-count
slice_bounds-waiting_block-count c = whole-bytes-in _ _ _ _ (omega arith) (lie c.before.before.before.before.before.before).holds

pub slice_bounds-waiting_block-start : goal.slice_bounds-waiting_block-start
slice_bounds-waiting_block-start c = whole-bytes-in _ _ _ _ (omega arith) (lie c.before.before.before.before.before.before).holds

pub overflow_sub-beyond-2 : goal.overflow_sub-beyond-2
overflow_sub-beyond-2 c = whole_le _ _ _ (omega arith)

pub waiting_block-requires-2 : goal.waiting_block-requires-2
waiting_block-requires-2 c =
    let l = lie c.before.before.before.before.before.before.before in
    (l.tail-fits _ (omega arith), l.tail-in _ (omega arith), λ some. refl)

pub returns : goal.returns
unfolding walked pick
returns c K e =
    let t = c in
    let h = t in
    let many = h in
    let w = many in
    let start = at-start c.before.before.before.before.before.before.before.before.before in
    let a = start.args in
    let width = w.width-n.ensures in
    let r = c.waiting_block-2 in
    let v = c.leftmost-2 in
    feed-many (width_of a.k.now) (width-at a.k.now.cipher) (steps_of a.k.now K) a.k.now.settings.padding a.total a.hold a.bytes.now w.held_bits-waits.result a.bits w.held_bits-waits.ensures (held-long c.before.before.before.before.before.before.before.before.before.before.before.before.before.before) start.requires.1
    (rw width at many.if-bits-space.false) (edge c.before.before.before.before.before.before.before.before) (enc_at a.k.now.cipher (words a.k.now.rounds.first)) h.first_through-h.result t.through-c.result v.result r.result (search (rules, v.type_inv)) (search (rules, r.type_inv))
    (inner-is a.k.now.cipher a.k.now.settings.algorithm a.k.now.rounds K e) (rw width at (h.first_through-h.ensures K e)) (rw width at t.through-c.ensures) (rw width at v.ensures) (rw width at r.ensures)
