-- `step` meets its contract: what the four look-ups add is T or T' of the word that is mixed (`all-added`), and the parts of the new
-- state are those of the round (`stepped`).
-- Assumes nothing.
use mathlib.Core.Path.{ap, ◌∙◌}
use Rattle.sm4.proofs.Lookup.{all-added}
use Rattle.sm4.proofs.Parts.{stepped}
use borrow.Author.Rules.{rules}
use Rattle.sm4.proofs.Split.step.Goals as goal

pub returns : goal.returns
returns g c =
    stepped g.M.Mixing.mixing c.args.self _ _ _ _ c.args.k
    (all-added g.met.M.Mixing.mixes c.bytes-b.result (search rules) _ _ _ _ c.added.ensures c.added-2.ensures c.added-3.ensures c.added-4.ensures
    ∙ ap g.M.Mixing.mixing c.bytes-b.ensures)
