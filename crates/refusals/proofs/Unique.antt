-- No second answer satisfies any public function's contract.
-- Assumes nothing.
use mathlib.Core.Path.{refl}
use Rattle.bits.specs.Once.{Unique}
use Rattle.bits.proofs.Same.{same}
use Rattle.refusals.proofs.Refusal.number.Kinds as number-k
use Rattle.refusals.proofs.Refusal.number.Reads as number

pub number-unique : Unique number-k.ps number-k.r number.Asked number.Learnt
number-unique κs a g p x y = (same x.ensures y.ensures, refl)
