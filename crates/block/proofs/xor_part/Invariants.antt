-- `xor_part` meets its contract: the invariant is that the first i bytes are the first 8i bits of the xor, and the others zero
-- (`byte_more`, `xor-byte`, `blank-more`).
-- Assumes nothing.
use Rattle.std.proofs.Common.{◌≡◌, ◌*◌, length, take, drop}
use Rattle.bits.specs.Str.{bytes_bits, xor_b}
use Rattle.block.proofs.Windows.{blank}
use Rattle.block.proofs.xor_part.Given as goal

abbrev pub invariant-loop-i : goal.invariant-loop-i
invariant-loop-i l = (length l.r ≡ 16) × (bytes_bits (take l.i l.r) ≡ take (8 * l.i) (xor_b (bytes_bits (take l.k l.part)) (bytes_bits l.b))) × (drop l.i l.r ≡ drop l.i blank)
