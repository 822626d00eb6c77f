-- `every_second` meets its contract: xor with F0 in each byte (`every_second-xor`).
-- Assumes nothing.
use Rattle.std.proofs.Common.{◌≡◌, length, arith, sym, ◌∙◌, rules}
use Rattle.bits.specs.Str.{bytes_bits}
use Rattle.bits.proofs.Packed.{length-bytes_bits}
use Rattle.bits.proofs.Groups.{every_second-xor}
use Rattle.block.proofs.every_second.Goals as goal

pub returns : goal.returns
returns c =
    let long : length c.args.b ≡ 16 = search rules in
    c.xor.ensures ∙ sym (every_second-xor (bytes_bits c.args.b) 16 (omega (arith, length-bytes_bits c.args.b)))
