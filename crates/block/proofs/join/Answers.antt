-- `join` meets its contract: from 128 bits on a is all (`all_first`).
-- Assumes nothing.
use Rattle.std.proofs.Common.{◌≡◌, length, arith, rules}
use Rattle.bits.specs.Str.{bytes_bits}
use Rattle.bits.proofs.Packed.{length-bytes_bits}
use Rattle.block.proofs.Windows.{all_first}
use Rattle.block.proofs.join.Goals as goal

pub returns-then-n-ge128 : goal.returns-then-n-ge128
returns-then-n-ge128 c =
    let long : length c.args.a ≡ 16 = search rules in
    all_first (bytes_bits c.args.a) (bytes_bits c.args.b) c.args.n (omega (arith, length-bytes_bits c.args.a)) c.if-n-ge128.true
