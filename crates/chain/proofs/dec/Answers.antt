-- `dec` meets its contract: the first bits of what `decrypt` ensures (`first-dec`).
-- Assumes nothing.
use Rattle.bits.specs.Str.{words}
use Rattle.cipher.proofs.Laws.{first-dec}
use borrow.Author.Rules.{rules}
use Rattle.chain.proofs.dec.Goals as goal

pub returns : goal.returns
returns c =
    first-dec c.args.k.now.cipher (words c.args.rk) c.args.b c.decrypt.result (search rules) c.decrypt.ensures
