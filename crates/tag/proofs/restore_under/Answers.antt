-- `restore_under` meets its contract: the message's refusal (`restore-refused-under`), 41 (`no-block-under`), or the block's bytes put in
-- their place (`restored-is`).
-- Assumes nothing.
use Rattle.std.proofs.Common.{rules, ◌≡◌, Err, ℕ, ◌+◌, ◌-◌, ◌*◌, ◌≤◌, ◌++◌, length, take, drop, Fits, w64, refl, sym, ap, ◌∙◌}
use native.Mathlib.Nat.{lt_of_le_of_lt}
use native.Mathlib.Omega.{arith}
use lib.ListN.{length-drop, take-append-drop}
use lib.Seq.{length-take-le}
use Rattle.bits.proofs.Lists.{take_rest}
use Rattle.block.proofs.Fronts.{put-after}
use Rattle.cipher.proofs.Laws.{width-at}
use Rattle.mac.specs.Tag.{bytes_for}
use Rattle.refusals.specs.Number.{number_in}
use Rattle.refusals.proofs.Number.{refuses}
use Rattle.keys.specs.Given.{key_bits}
use Rattle.message.proofs.Taken.{taken}
use Rattle.tag.specs.Restore.{restored_told}
use Rattle.tag.proofs.Full.{size}
use Rattle.tag.proofs.Making.{with-ten}
use Rattle.tag.proofs.Restoring.{known, restore-refused-under, no-block-under, restored-is}
use Rattle.tag.proofs.restore_under.Goals as goal

pub returns-in_err-refusal : goal.returns-in_err-refusal
unfolding number_in restored_told
returns-in_err-refusal c =
    let a = c.args in
    let refused : c.from_residual.result ≡ Err c.in_err-refusal.field-0.0 = search rules in
    ap (λ r. (restored_told r, a.message.now)) refused
    ∙ restore-refused-under a.s (key_bits a.keys) a.message.now a.bits a.number a.offered.now _ (with-ten _ _ _ c.in_err-refusal.ensures c.tag_length_wrong-ten.ensures) (refuses _)

pub returns-then-no_such_block : goal.returns-then-no_such_block
unfolding number_in restored_told
returns-then-no_such_block c =
    let a = c.args in
    no-block-under a.s (key_bits a.keys) a.message.now a.bits a.number a.offered.now 0 (with-ten _ _ _ c.in_ok-refusal.ensures c.tag_length_wrong-ten.ensures) refl
    (sym c.no_such_block.ensures ∙ c.if-no_such_block.true)

pub lost_block-filling-requires : goal.lost_block-filling-requires
unfolding number_in
lost_block-filling-requires c =
    let a = c.args in
    let t = taken a.s (length a.message.now) a.bits _ (sym (with-ten _ _ _ c.in_ok-refusal.ensures c.tag_length_wrong-ten.ensures)) in
    let there = known a.s (key_bits a.keys) a.message.now a.bits a.number a.offered.now 0 (with-ten _ _ _ c.in_ok-refusal.ensures c.tag_length_wrong-ten.ensures) refl (sym c.no_such_block.ensures ∙ c.if-no_such_block.false) c.requires in
    (t.few, t.long, there.whole, there.fits, t.enough)

-- the block lies in the message
pub overflow_mul-number : goal.overflow_mul-number
unfolding number_in
overflow_mul-number c =
    let a = c.args in
    let there = known a.s (key_bits a.keys) a.message.now a.bits a.number a.offered.now 0 (with-ten _ _ _ c.in_ok-refusal.ensures c.tag_length_wrong-ten.ensures) refl (sym c.no_such_block.ensures ∙ c.if-no_such_block.false) c.requires in
    let sized : c.bytes_for-size.result ≡ size = c.bytes_for-size.ensures ∙ ap bytes_for c.requires in
    let le : a.number * c.bytes_for-size.result ≤ length a.message.now = let inside : a.number * c.bytes_for-size.result + c.bytes_for-size.result ≤ length a.message.now = rw sized there.inside in omega (arith, inside) in
    let f : Fits w64 (length a.message.now) = search rules in
    record { fits = lt_of_le_of_lt le f.fits }

pub slice_bounds-put-count : goal.slice_bounds-put-count
unfolding number_in
slice_bounds-put-count c =
    let a = c.args in
    let there = known a.s (key_bits a.keys) a.message.now a.bits a.number a.offered.now 0 (with-ten _ _ _ c.in_ok-refusal.ensures c.tag_length_wrong-ten.ensures) refl (sym c.no_such_block.ensures ∙ c.if-no_such_block.false) c.requires in
    let sized : c.bytes_for-size.result ≡ size = c.bytes_for-size.ensures ∙ ap bytes_for c.requires in
    let inside : a.number * c.bytes_for-size.result + c.bytes_for-size.result ≤ length a.message.now = rw sized there.inside in omega (arith, inside)

pub slice_bounds-put-start : goal.slice_bounds-put-start
unfolding number_in
slice_bounds-put-start c =
    let a = c.args in
    let there = known a.s (key_bits a.keys) a.message.now a.bits a.number a.offered.now 0 (with-ten _ _ _ c.in_ok-refusal.ensures c.tag_length_wrong-ten.ensures) refl (sym c.no_such_block.ensures ∙ c.if-no_such_block.false) c.requires in
    let sized : c.bytes_for-size.result ≡ size = c.bytes_for-size.ensures ∙ ap bytes_for c.requires in
    let inside : a.number * c.bytes_for-size.result + c.bytes_for-size.result ≤ length a.message.now = rw sized there.inside in omega (arith, inside)

pub put-requires : goal.put-requires
unfolding bytes_for number_in
put-requires c =
    let a = c.args in
    let there = known a.s (key_bits a.keys) a.message.now a.bits a.number a.offered.now 0 (with-ten _ _ _ c.in_ok-refusal.ensures c.tag_length_wrong-ten.ensures) refl (sym c.no_such_block.ensures ∙ c.if-no_such_block.false) c.requires in
    let sized : c.bytes_for-size.result ≡ size = c.bytes_for-size.ensures ∙ ap bytes_for c.requires in
    let at = a.number * c.bytes_for-size.result in
    let long = ap length (take_rest at a.message.now) ∙ length-drop at a.message.now in
    let inside : at + c.bytes_for-size.result ≤ length a.message.now = rw sized there.inside in
    (omega (arith, sized, width-at 1), omega (arith, inside, long))

pub returns : goal.returns
unfolding number_in restored_told
returns c =
    let a = c.args in
    let m = a.message.now in
    let there = known a.s (key_bits a.keys) a.message.now a.bits a.number a.offered.now 0 (with-ten _ _ _ c.in_ok-refusal.ensures c.tag_length_wrong-ten.ensures) refl (sym c.no_such_block.ensures ∙ c.if-no_such_block.false) c.requires in
    let sized : c.bytes_for-size.result ≡ size = c.bytes_for-size.ensures ∙ ap bytes_for c.requires in
    let here = a.number * c.bytes_for-size.result in
    let inside : here + c.bytes_for-size.result ≤ length m = rw sized there.inside in
    let split = put-after (take here m) (drop here m) m (take c.bytes_for-size.result c.lost_block-filling.result) _ here (length m - here) c.bytes_for-size.result (sym (take-append-drop here m)) (length-take-le here m (omega (arith, inside))) (omega (arith, inside)) c.put.ensures in
    restored-is a.s (key_bits a.keys) m a.bits a.number a.offered.now 0 (with-ten _ _ _ c.in_ok-refusal.ensures c.tag_length_wrong-ten.ensures) refl (sym c.no_such_block.ensures ∙ c.if-no_such_block.false) c.requires
    c.lost_block-filling.result _ (search rules) c.lost_block-filling.ensures (split ∙ ap (λ (k : ℕ). take (a.number * k) m ++ (take k c.lost_block-filling.result ++ drop k (drop (a.number * k) m))) sized)
