-- `ended` meets its contract: what its three calls ensure, one put into the other, is `finish` written out.
-- Assumes nothing.
use mathlib.Core.Path.{ap, ◌∙◌}
use Rattle.bits.specs.Str.{Bits}
use Rattle.block.specs.Block.{filled_block}
use Rattle.mac.specs.Session.{finish}
use Rattle.chain.specs.Chain.{width_of, steps_of}
use Rattle.chain.proofs.Firsts.{first-xor}
use Rattle.chain.proofs.ended.Goals as goal

pub returns : goal.returns
unfolding finish
returns c K e =
    let a = c.args in
    let S = steps_of a.k.now K in
    let z = first-xor (width_of a.k.now) a.b a.h _ c.xor.ensures in
    c.cut.ensures K
    ∙ ap (λ (g : Bits). filled_block (S.cut a.complete a.k.now.settings.m g)) (c.last.ensures K e ∙ ap (λ (z : Bits). (S.last a.complete z).out) z)
