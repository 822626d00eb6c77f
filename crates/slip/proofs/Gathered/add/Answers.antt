-- `add` meets its contract: what the record holds and as much of the read as there is room for, put over zeros (`added`).
-- Assumes nothing.
use Rattle.std.proofs.Common.{ap, List, ℕ}
use Rattle.slip.specs.Gathering.{held}
use Rattle.slip.proofs.Gathering.{added}
use Rattle.slip.proofs.Gathered.add.Goals as goal

pub returns : goal.returns
unfolding held
returns c =
    let bytes = λ (p : (ℕ × ℕ) × List ℕ). p.1 in
    added c.args.self c.args.more.now _ _ _ (ap bytes c.held-kept.ensures) (ap bytes c.first-new.ensures) c.put_both.ensures
