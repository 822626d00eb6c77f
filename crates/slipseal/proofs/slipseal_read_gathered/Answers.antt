-- `slipseal_read_gathered` meets its contract: what `slipseal_read` answers for the bytes that the record holds.
-- Assumes nothing.
use mathlib.Core.Path.{ap, ◌∙◌}
use mathlib.Core.List.{List}
use Prim.Native.Nat.{ℕ}
use Rattle.slip.specs.Gathering.{held}
use Rattle.slip.specs.Slip.{read_of}
use Rattle.slipseal.specs.Border.{agreed_of, told_slip}
use Rattle.slipseal.proofs.slipseal_read_gathered.Goals as goal

pub returns : goal.returns
unfolding held
returns c =
    let a = c.args in
    c.slipseal_read.ensures ∙ ap (λ (p : (ℕ × ℕ) × List ℕ). told_slip (read_of (agreed_of a.agreement) a.keys.now p.1)) c.held.ensures
