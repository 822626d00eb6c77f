-- `number` meets its contract: of the number in 128 bits the last n are it in n bits (`number_is`).
-- Assumes nothing.
use Rattle.std.proofs.Common.{ap, ◌∙◌}
use Rattle.bits.specs.Str.{bits_n}
use Rattle.block.proofs.Windows.{bytes-of}
use Rattle.block.proofs.Widths.{number_is}
use Rattle.block.proofs.number.Goals as goal

pub returns : goal.returns
returns c = number_is c.args.x c.args.n _ _ c.requires (bytes-of _ _ c.to_be_bytes.ensures ∙ ap (bits_n 128) c.from.ensures) c.rightmost_of.ensures
