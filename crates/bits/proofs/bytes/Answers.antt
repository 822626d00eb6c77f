-- `bytes` meets its contract: a mask of eight ones leaves a remainder by 256 (`and_mask`), and such remainders are the word's bytes
-- (`high_first-bits`).
-- Assumes nothing.
use Rattle.std.proofs.Common.{◌≡◌, ◌/◌, ◌%◌, arith}
use lib.Bits.{and_mask}
use Rattle.bits.proofs.Shifts.{high_first-bits}
use Rattle.bits.proofs.bytes.Goals as goal

pub returns : goal.returns
returns c =
    let x = c.args.x in
    let top : x / 0x100_0000 ≡ x / 0x100_0000 % 0x100 = omega arith in
    rw (top, and_mask (x / 0x1_0000) 8, and_mask (x / 0x100) 8, and_mask x 8) (high_first-bits 4 x)
