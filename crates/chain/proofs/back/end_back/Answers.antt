-- `end_back` meets its contract: the way back through the last step is all that is wanted there (`end_whole`), or the block that the
-- padding ends goes back too (`end-padded`, `ended-block`).
-- Assumes nothing.
use mathlib.Core.Path.{refl, sym, ap, ◌∙◌}
use Prim.Native.Nat.{◌-◌, ◌/◌, ◌%◌, ◌<◌}
use native.Mathlib.Nat.{div-add-mod', mod-lt}
use native.Mathlib.Omega.{arith}
use lib.Dec.{eqb}
use lib.ListN.{length, take, length-drop}
use lib.Seq.{length-take-le}
use Rattle.bits.specs.Str.{bytes_bits, words, xor_b}
use Rattle.bits.proofs.Lists.{take_rest}
use Rattle.bits.proofs.Packed.{length-bytes_bits}
use Rattle.cipher.specs.Ciphers.{dec_at}
use Rattle.cipher.proofs.Laws.{width-at}
use Rattle.chain.specs.Chain.{width_of}
use Rattle.chain.specs.Back.{backs_of, wanted_end}
use Rattle.chain.proofs.Firsts.{first-xor}
use Rattle.chain.proofs.Rows.{inner-back-is}
use Rattle.chain.proofs.Unwinding.{end_whole, end-padded, ended-block}
use Rattle.chain.proofs.back.end_back.Goals as goal

pub nonzero_rem-over : goal.nonzero_rem-over
nonzero_rem-over c = omega (arith, c.width-n.ensures, width-at c.args.k.now.cipher)

pub returns-then-ends_whole : goal.returns-then-ends_whole
unfolding wanted_end
returns-then-ends_whole c K e =
    let ends = c in
    let width = ends in
    let start = width in
    let a = start.args in
    let n = width_of a.k.now in
    let x = take a.bits (bytes_bits a.bytes.now) in
    let g = take n (bytes_bits a.tag) in
    let long = length-take-le a.bits (bytes_bits a.bytes.now) (omega (arith, start.requires.0, length-bytes_bits a.bytes.now)) in
    (rw width.width-n.ensures at (ends.last_back-v.ensures K e))
    ∙ end_whole n (width-at a.k.now.cipher) a.k.now.settings.padding a.bits start.requires.1 (backs_of a.k.now K) x g long
    (rw width.width-n.ensures at (sym ends.ends_whole.ensures ∙ c.if-ends_whole.true))

pub overflow_sub-bits : goal.overflow_sub-bits
overflow_sub-bits c =
    let width = c.width-n.result in
    omega (arith, div-add-mod' c.args.bits width)

pub waiting_block-requires : goal.waiting_block-requires
waiting_block-requires c =
    let width = c in
    let start = width in
    let a = start.args in
    let W = width-at a.k.now.cipher in
    let w = width.width-n.result in
    let pos : 0 < w = omega (arith, W, width.width-n.ensures) in
    let less = mod-lt a.bits pos in
    let at = (a.bits - a.bits % w) / 8 in
    let long = ap length (take_rest at a.bytes.now) ∙ length-drop at a.bytes.now in
    (omega (arith, W, less, width.width-n.ensures), omega (arith, long, start.requires.0, div-add-mod' a.bits w), λ h. refl)

pub returns : goal.returns
unfolding wanted_end
returns c K e =
    let join = c in
    let kept = join in
    let ends = kept in
    let width = ends in
    let start = width in
    let a = start.args in
    let k = a.k.now in
    let n = width_of k in
    let W = width-at k.cipher in
    let x = take a.bits (bytes_bits a.bytes.now) in
    let g = take n (bytes_bits a.tag) in
    let long = length-take-le a.bits (bytes_bits a.bytes.now) (omega (arith, start.requires.0, length-bytes_bits a.bytes.now)) in
    let b = take n (bytes_bits join.join-b.result) in
    let block =
    ended-block n k.settings.padding a.bits W a.bytes.now kept.waiting_block.result join.join-b.result join.mark.result start.requires.0
    (rw width.width-n.ensures at kept.waiting_block.ensures) (rw width.width-n.ensures at join.join-b.ensures) join.mark.ensures in
    c.dec.ensures
    ∙ ap (dec_at k.cipher (words k.rounds.first)) (first-xor n join.join-b.result ends.last_back-v.result _ c.xor.ensures ∙ ap (xor_b b) (rw width.width-n.ensures at (ends.last_back-v.ensures K e)))
    ∙ (λ i. inner-back-is k.cipher k.settings.algorithm k.rounds K e i (xor_b b ((backs_of k K).last (eqb (a.bits % n) 0) g)))
    ∙ end-padded n W k.settings.padding a.bits start.requires.1 (backs_of k K) x g long
    (rw width.width-n.ensures at (sym ends.ends_whole.ensures ∙ kept.if-ends_whole.false)) b block
