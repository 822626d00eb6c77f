-- `lot` meets its contract: the lot that `read` names lies inside the slip (`lot-there`), and of a refused slip it is no byte.
-- Assumes nothing.
use Rattle.std.proofs.Common.{ap, sym, ◌∙◌, zero-add}
use Rattle.slip.specs.Part.{lot_part, lot_part_in}
use Rattle.slip.specs.Slip.{Reading, refused_slip, reading}
use Rattle.slip.proofs.LotInside.{lot-there}
use Rattle.slip.proofs.lot.Goals as goal

pub returns-in-Ok : goal.returns-in-Ok
unfolding reading
returns-in-Ok c =
    let s = c.args.slip in
    c.lot_in.ensures ∙ ap (λ (r : Reading). lot_part_in s r.contents) c.in-Ok.ensures ∙ sym (lot-there c.args.agreement c.args.keys.now s)

pub returns-in-Err : goal.returns-in-Err
unfolding reading refused_slip
returns-in-Err c = simp zero-add at (ap (λ (r : Reading). lot_part c.args.slip r.contents) c.in-Err.ensures)
