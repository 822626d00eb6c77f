-- `read` meets its contract: the fields' refusal (`laid-refused`); 25 where the seal field names something else than agreed
-- (`unmet-refused`); or what `read_under` answers.
-- Assumes nothing.
use Rattle.std.proofs.Common.{rules, ◌≡◌, ap, sym, ◌∙◌, Err}
use Rattle.slip.specs.Slip.{reading}
use Rattle.slip.proofs.Judged.{unmet-refused, laid-refused, laid-clear, laid-places, laid-compared}
use Rattle.slip.proofs.read.Goals as goal

pub returns-in_err-layout : goal.returns-in_err-layout
unfolding reading
returns-in_err-layout c =
    let refused : c.from_residual.result ≡ Err c.in_err-layout.field-0.0 = search rules in
    ap reading refused ∙ laid-refused _ _ c.laid_out-layout.ensures _ _ _ c.in_err-layout.was

pub returns-then-agreement_unmet : goal.returns-then-agreement_unmet
unfolding reading
returns-then-agreement_unmet c =
    let laid = c.laid_out-layout.ensures in
    unmet-refused _ _ _ (laid-clear _ _ laid _ c.in_ok-layout.was) (laid-compared _ _ laid _ ∙ sym c.agreement_unmet.ensures ∙ c.if-agreement_unmet.true)

pub read_under-requires : goal.read_under-requires
read_under-requires c =
    let laid = c.laid_out-layout.ensures in
    (laid-places _ _ laid, laid-clear _ _ laid _ c.in_ok-layout.was, laid-compared _ _ laid _ ∙ sym c.agreement_unmet.ensures ∙ c.if-agreement_unmet.false)
