-- `make_under` meets its contract: the message's refusal (`make-refused-under`), or the tag's bytes put into the room (`made-is`).
-- Assumes nothing.
use Rattle.std.proofs.Common.{rules, ◌≡◌, Err, length, refl, sym, ap, ◌∙◌}
use native.Mathlib.Omega.{arith}
use borrow.Author.Tests.{ltb-false}
use Rattle.block.specs.Block.{filled_block}
use Rattle.mac.specs.Algorithm.{Keys}
use Rattle.mac.specs.Tag.{bytes_for}
use Rattle.refusals.specs.Number.{number_in}
use Rattle.refusals.proofs.Number.{refuses}
use Rattle.settings.specs.Answers.{told}
use Rattle.message.proofs.Taken.{taken}
use Rattle.tag.specs.OneCall.{tag_at}
use Rattle.tag.proofs.Making.{with-ten, make-refused-under, made-is}
use Rattle.tag.proofs.make_under.Goals as goal

pub returns-in_err-refusal : goal.returns-in_err-refusal
unfolding number_in told
returns-in_err-refusal c R u =
    let a = c.args in
    let refused : c.from_residual.result ≡ Err c.in_err-refusal.field-0.0 = search rules in
    ap (λ r. (told r, a.room.now)) refused
    ∙ make-refused-under a.s R a.message.now a.bits _ a.room.now (with-ten _ _ _ c.in_err-refusal.ensures c.room_short-ten.ensures) (refuses _)

pub tag_block-tag-requires : goal.tag_block-tag-requires
unfolding number_in
tag_block-tag-requires c =
    let t = taken c.args.s (length c.args.message.now) c.args.bits _ (sym c.in_ok-refusal.ensures) in
    (t.few, t.long)

pub put-requires : goal.put-requires
unfolding bytes_for number_in
put-requires c =
    let a = c.args in
    let t = taken a.s (length a.message.now) a.bits _ (sym (with-ten _ _ _ c.in_ok-refusal.ensures c.room_short-ten.ensures)) in
    let n : c.bytes_for.result ≡ bytes_for a.s.m = c.bytes_for.ensures in
    (omega (arith, n), omega (arith, n, ltb-false (length a.room.now) (bytes_for a.s.m) t.room))

pub returns : goal.returns
unfolding number_in told
returns c R u =
    let a = c.args in
    made-is a.s R a.message.now a.bits 0 _ _ _ _ refl c.bytes_for.ensures c.requires (search rules) (c.tag_block-tag.ensures ∙ ap (λ (K : Keys). filled_block (tag_at a.s K a.message.now a.bits)) u.0)
    u.1 c.calls.ensures a.room.now _ (with-ten _ _ _ c.in_ok-refusal.ensures c.room_short-ten.ensures) c.put.ensures
