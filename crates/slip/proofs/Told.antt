-- What is told of a slip fixes the answer: of reading (`same-reading`) and of writing (`same-writing`).
-- Assumes nothing.
use mathlib.Core.Path.{◌≡◌, ap}
use native.Mathlib.Omega.{arith}
use Rattle.std.specs.Prelude.{Result, Ok, Err}
use Rattle.refusals.specs.declared.Refusal.{Refusal}
use Rattle.refusals.proofs.Number.{refusal-numbered, same-refusal}
use Rattle.slip.specs.Slip.{Reading, refused_slip, reading}
use Rattle.slip.specs.Printed.{Writing, written_slip, unwritten_slip, writing}
use Rattle.slip.specs.declared.Slip.{Slip}
use Rattle.slip.specs.declared.Printed.{Printed}

pub same-reading : (x y : Result Slip Refusal) → reading x ≡ reading y → x ≡ y
unfolding reading refused_slip
same-reading (Ok r) (Ok t) e = λ i. Ok (record { calls = (e i).calls; contents = (e i).contents })
same-reading (Ok r) (Err t) e = absurd (omega (arith, refusal-numbered t, ap (λ (x : Reading). x.number) e))
same-reading (Err r) (Ok t) e = absurd (omega (arith, refusal-numbered r, ap (λ (x : Reading). x.number) e))
same-reading (Err r) (Err t) e = ap Err (same-refusal r t (ap (λ (x : Reading). x.number) e))

pub same-writing : (x y : Result Printed Refusal) → writing x ≡ writing y → x ≡ y
unfolding writing written_slip unwritten_slip
same-writing (Ok p) (Ok q) e = λ i. Ok (record { length = (e i).length; calls = (e i).calls })
same-writing (Ok p) (Err t) e = absurd (omega (arith, refusal-numbered t, ap (λ (x : Writing). x.number) e))
same-writing (Err r) (Ok q) e = absurd (omega (arith, refusal-numbered r, ap (λ (x : Writing). x.number) e))
same-writing (Err r) (Err t) e = ap Err (same-refusal r t (ap (λ (x : Writing). x.number) e))
