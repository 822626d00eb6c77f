-- What a step tells in document 01's words fixes the step (`same-stepped`).
-- Assumes nothing.
use Rattle.std.proofs.Common.{◌≡◌, ap}
use Rattle.settings.proofs.Told.{same-told}
use Rattle.session.specs.declared.Step.{Step}
use Rattle.session.specs.Calls.{Stepped, stepped}

pub same-stepped : (x y : Step) → stepped x ≡ stepped y → x ≡ y
same-stepped x y e =
    let answered = same-told x.answer y.answer (ap (λ (r : Stepped). r.answer) e) in
    λ i. record { answer = answered i; session = (e i).session }
