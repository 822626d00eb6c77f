-- `enc` meets its contract: the first bits of what `encrypt` ensures (`first-enc`).
-- Assumes nothing.
use Rattle.bits.specs.Str.{words}
use Rattle.cipher.proofs.Laws.{first-enc}
use borrow.Author.Rules.{rules}
use Rattle.chain.proofs.enc.Goals as goal

pub returns : goal.returns
returns c =
    first-enc c.args.k.now.cipher (words c.args.rk) c.args.b c.encrypt.result (search rules) c.encrypt.ensures
