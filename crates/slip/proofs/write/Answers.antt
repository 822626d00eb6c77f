-- `write` meets its contract: the refusal of what is to be said (`laid-refused`), or what is written under the agreement (`laid-written`).
-- Assumes nothing.
use Rattle.std.proofs.Common.{rules, ◌≡◌, ap, ◌∙◌, arith, Err}
use Rattle.slip.specs.Printed.{writing}
use Rattle.slip.proofs.Printing.{laid-refused, laid-long, laid-front, laid-written}
use Rattle.slip.proofs.write.Goals as goal

pub returns-in_err-count : goal.returns-in_err-count
unfolding writing
returns-in_err-count c =
    let refused : c.from_residual.result ≡ Err c.in_err-count.field-0.0 = search rules in
    ap (λ r. (writing r, c.args.room.now)) refused ∙ laid-refused _ _ _ _ _ c.in_err-count.ensures

pub slice_bounds-bytes-end : goal.slice_bounds-bytes-end
slice_bounds-bytes-end c = omega (arith, laid-long _ _ c.in_ok-count.ensures, laid-front _ _ c.in_ok-count.ensures)

pub slice_bounds-write_under-end : goal.slice_bounds-write_under-end
slice_bounds-write_under-end c = laid-long _ _ c.in_ok-count.ensures

pub write_under-requires : goal.write_under-requires
write_under-requires c = laid-front _ _ c.in_ok-count.ensures

pub returns : goal.returns
returns c = c.write_under.ensures ∙ laid-written _ _ c.in_ok-count.ensures _ _ _
