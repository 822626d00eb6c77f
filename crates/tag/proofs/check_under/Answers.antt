-- `check_under` meets its contract: the message's refusal (`check-refused-under`), or the comparison with the tag's bytes (`checked-is`).
-- Assumes nothing.
use Rattle.std.proofs.Common.{rules, ◌≡◌, Err, length, refl, sym, ap, ◌∙◌}
use native.Mathlib.Omega.{arith}
use lib.Seq.{length-take-le}
use Rattle.bits.proofs.Choice.{hit, miss}
use Rattle.block.specs.Block.{filled_block}
use Rattle.mac.specs.Algorithm.{Keys}
use Rattle.mac.specs.Tag.{bytes_for}
use Rattle.refusals.specs.Number.{number_in}
use Rattle.refusals.proofs.Number.{refuses}
use Rattle.settings.specs.Answers.{told}
use Rattle.message.proofs.Taken.{taken}
use Rattle.tag.specs.OneCall.{tag_at}
use Rattle.tag.proofs.Making.{with-ten, check-refused-under, checked-is}
use Rattle.tag.proofs.check_under.Goals as goal

pub returns-in_err-refusal : goal.returns-in_err-refusal
unfolding number_in told
returns-in_err-refusal c R u =
    let a = c.args in
    let refused : c.from_residual.result ≡ Err c.in_err-refusal.field-0.0 = search rules in
    ap told refused
    ∙ check-refused-under a.s R a.message.now a.bits _ a.offered.now (with-ten _ _ _ c.in_err-refusal.ensures c.tag_length_wrong-ten.ensures) (refuses _)

pub tag_block-tag-requires : goal.tag_block-tag-requires
unfolding number_in
tag_block-tag-requires c =
    let t = taken c.args.s (length c.args.message.now) c.args.bits _ (sym c.in_ok-refusal.ensures) in
    (t.few, t.long)

-- the tag's bytes are bytes of the block
pub slice_bounds-tag-end : goal.slice_bounds-tag-end
unfolding bytes_for
slice_bounds-tag-end c = let l : length c.tag_block-tag.result ≡ 16 = search rules in omega (arith, c.requires, c.bytes_for-n.ensures)

pub slice_bounds-equal_bytes-end : goal.slice_bounds-equal_bytes-end
unfolding bytes_for
slice_bounds-equal_bytes-end c =
    let tag = c.tag_block-tag.result in
    let l : length tag ≡ 16 = search rules in
    sym (length-take-le c.bytes_for-n.result tag (omega (arith, c.requires, c.bytes_for-n.ensures)))

pub returns-then-equal_bytes : goal.returns-then-equal_bytes
unfolding number_in told
returns-then-equal_bytes c R u =
    let a = c.args in
    hit _ _ _ _ c.if-equal_bytes.true refl
    ∙ checked-is a.s R a.message.now a.bits 0 _ _ _ _ refl c.bytes_for-n.ensures c.requires (search rules) (c.tag_block-tag.ensures ∙ ap (λ (K : Keys). filled_block (tag_at a.s K a.message.now a.bits)) u.0)
    u.1 c.calls-calls.ensures a.offered.now _ (with-ten _ _ _ c.in_ok-refusal.ensures c.tag_length_wrong-ten.ensures) (λ i. (c.type_inv.offered i).fits) c.equal_bytes.ensures

pub returns-else-equal_bytes : goal.returns-else-equal_bytes
unfolding number_in told
returns-else-equal_bytes c R u =
    let a = c.args in
    miss _ _ _ _ c.if-equal_bytes.false refl
    ∙ checked-is a.s R a.message.now a.bits 0 _ _ _ _ refl c.bytes_for-n.ensures c.requires (search rules) (c.tag_block-tag.ensures ∙ ap (λ (K : Keys). filled_block (tag_at a.s K a.message.now a.bits)) u.0)
    u.1 c.calls-calls.ensures a.offered.now _ (with-ten _ _ _ c.in_ok-refusal.ensures c.tag_length_wrong-ten.ensures) (λ i. (c.type_inv.offered i).fits) c.equal_bytes.ensures
