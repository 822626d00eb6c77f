-- No second answer satisfies the public function's contract.
-- Assumes nothing.
use Rattle.std.proofs.Common.{refl}
use Rattle.bits.specs.Once.{Unique}
use Rattle.bits.proofs.Same.{same}
use Rattle.writing.proofs.Sayable.{same-told}
use Rattle.writing.proofs.lay_out.Kinds as lay-out-k
use Rattle.writing.proofs.lay_out.Reads as lay-out

pub lay-out-unique : Unique lay-out-k.ps lay-out-k.r lay-out.Asked lay-out.Learnt
lay-out-unique κs a g p x y = (same-told x.result y.result (same x.ensures y.ensures), refl)
