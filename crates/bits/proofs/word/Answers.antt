-- `word` meets its contract: the bits of four bytes, one after the other (`from_high-bits`).
-- Assumes nothing.
use Rattle.std.proofs.Common.{ap, ◌∙◌, rules}
use Rattle.bits.specs.Str.{bits_n}
use Rattle.bits.proofs.Shifts.{from_high-bits}
use Rattle.bits.proofs.word.Goals as goal

pub returns : goal.returns
returns c = ap (bits_n 32) c.from_be_bytes.ensures ∙ from_high-bits 3 _ (search rules) (search rules)
