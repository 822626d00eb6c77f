-- `xor_part` meets its contract: the invariant is that the first i bytes are the first 8i bits of the xor, and the others zero
-- (`byte_more`, `xor-byte`, `blank-more`).
-- Assumes nothing.
use Rattle.std.proofs.Common.{◌≡◌, length, take, length-take, arith, refl, rules}
use mathlib.Core.List.{flat_map}
use Rattle.bits.specs.Str.{bytes_bits}
use Rattle.block.proofs.Windows.{blank}
use Rattle.block.proofs.Stored.{byte_more, xor-byte, blank-more, xor-done}
use Rattle.block.proofs.xor_part.Goals as goal

pub loop-i-init : goal.loop-i-init
unfolding bytes_bits flat_map blank
loop-i-init c = (refl, refl, refl)

pub loop-i-preserved : goal.loop-i-preserved
loop-i-preserved c =
    let l = c.loop-i in
    let part = take c.args.k c.args.part.now in
    let long : length c.args.b ≡ 16 = search rules in
    let few = length-take c.args.k c.args.part.now in
    (search rules, byte_more _ l.r l.i _ (omega arith) l.invariant.1 (xor-byte part c.args.b l.i c.loop-i-test.true (omega arith)), blank-more l.r l.i _ l.invariant.2)

pub returns : goal.returns
returns c =
    let few = length-take c.args.k c.args.part.now in
    xor-done (take c.args.k c.args.part.now) c.args.b c.loop-i.r c.loop-i.i (omega arith) (omega arith) (search rules) c.loop-i.invariant.1 c.loop-i.invariant.2
