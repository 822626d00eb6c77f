-- `tag_block` meets its contract: begun, fed the whole message and closed, at the round keys of the keys (`one-call`).
-- Assumes nothing.
use Rattle.std.proofs.Common.{rules, refl, ap, ◌∙◌}
use native.Mathlib.Omega.{arith}
use Rattle.block.specs.Block.{filled_block}
use Rattle.cipher.specs.Ciphers.{cipher_at}
use Rattle.cipher.proofs.Laws.{sm4-key}
use Rattle.mac.specs.Algorithm.{algorithm_at, Keys}
use Rattle.mac.specs.Padding.{method_at}
use Rattle.mac.specs.Tag.{bits_of, bytes_for, tag_of}
use Rattle.mac.proofs.TagBytes.{length-bits_of}
use Rattle.chain.specs.Rounds.{key_blocks}
use Rattle.chain.proofs.Rows.{whole-keys, keyed-at}
use Rattle.chain.proofs.Standing.{one-call}
use Rattle.tag.specs.OneCall.{tag_at}
use Rattle.tag.proofs.tag_block.Goals as goal

pub feed-fed-requires : goal.feed-fed-requires
unfolding bytes_for
feed-fed-requires c = ((key_blocks 1 c.args.keys, keyed-at c.new-k.result _ c.new-k.ensures), omega arith, λ h. refl)

pub returns : goal.returns
unfolding tag_at bits_of bytes_for
returns c =
    let a = c.args in
    let k = c.new-k in
    let K = key_blocks 1 a.keys in
    let e = keyed-at k.result K k.ensures in
    let x = bits_of a.message.now a.bits in
    let here = k.result.settings in
    c.close.ensures K e
    ∙ ap filled_block (one-call k.result.cipher here.algorithm here.padding K here.m a.bits x _ _ (length-bits_of a.message.now a.bits (omega arith)) (c.begin-begun.ensures K e) (c.feed-fed.ensures K e))
    ∙ (λ i. let under = k.ensures.2 i in filled_block (tag_of (cipher_at (k.ensures.1 i)) (algorithm_at under.algorithm) (method_at under.padding) K under.m x))
    -- all bits of the key blocks are key bits
    ∙ ap (λ (K : Keys). filled_block (tag_at a.s K a.message.now a.bits)) (whole-keys 1 a.keys sm4-key (search rules) (search rules) (search rules))
