-- `write_under` meets its contract: what the answer of `make` makes of the slip (`sealing-is`).
-- Assumes nothing.
use Rattle.std.proofs.Common.{rules, refl, ◌≡◌, ap, ◌∙◌, Err}
use Rattle.settings.specs.Answers.{told}
use Rattle.slip.specs.Printed.{writing}
use Rattle.slip.proofs.Printing.{sealing, sealing-is, not_made, made-bounds}
use Rattle.slip.proofs.write_under.Goals as goal

pub returns-in_err-calls : goal.returns-in_err-calls
unfolding writing told sealing
returns-in_err-calls c =
    let refused : c.from_residual.result ≡ Err c.in_err-calls.field-0.0 = search rules in
    ap (λ r. (writing r, c.args.room.now)) refused ∙ sealing-is _ _ _ c.requires.0 c.requires.1 c.requires.2 _ _ refl _ c.in_err-calls.ensures

pub put_slip-requires : goal.put_slip-requires
unfolding told
put_slip-requires c = made-bounds _ _ _ c.requires.0 c.requires.1 c.requires.2 _ c.args.room.now refl _ (rw c.in-Made.is at c.in_ok-calls.ensures) _ refl

pub returns-in-Made : goal.returns-in-Made
unfolding told sealing
returns-in-Made c = c.put_slip.ensures ∙ sealing-is _ _ _ c.requires.0 c.requires.1 c.requires.2 _ _ refl _ (rw c.in-Made.is at c.in_ok-calls.ensures)

pub returns-in_default : goal.returns-in_default
unfolding writing
returns-in_default c = not_made _ _ _ _ _ c.in_default.not-Made ∙ sealing-is _ _ _ c.requires.0 c.requires.1 c.requires.2 _ _ refl _ c.in_ok-calls.ensures
