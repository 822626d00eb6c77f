-- `keyed` meets its contract: what `Keyed::new` ensures, at all bits of the key blocks.
-- Assumes nothing.
use Rattle.std.proofs.Common.{rules, ap, ◌∙◌}
use Rattle.cipher.proofs.Laws.{sm4-key}
use Rattle.chain.specs.Rounds.{rounds_of}
use Rattle.chain.proofs.Rows.{whole-keys}
use Rattle.session.proofs.keyed.Goals as goal

pub returns-clause-rounds : goal.returns-clause-rounds
returns-clause-rounds c =
    let a = c.args in
    rw c.of.ensures at c.new.ensures.3 ∙ ap (rounds_of 1 a.agreement.algorithm) (whole-keys 1 a.keys sm4-key (search rules) (search rules) (search rules))
