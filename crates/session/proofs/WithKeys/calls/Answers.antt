-- `calls` meets its contract: those for the keys, q and the further calls of the row are those of the definition's list
-- (`calls-listed`).
-- Assumes nothing.
use Rattle.std.proofs.Common.{◌∙◌}
use Rattle.session.proofs.Answers.{calls-listed}
use Rattle.session.proofs.WithKeys.calls.Goals as goal

pub returns : goal.returns
returns c = let self = c.args.self.now in rw c.of-named.ensures at c.calls.ensures ∙ calls-listed self.session self.unpacked.calls self.own.1 c.requires
