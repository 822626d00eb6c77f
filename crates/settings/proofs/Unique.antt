-- No second answer satisfies any public function's contract.
-- Assumes nothing.
use mathlib.Core.Path.{refl}
use borrow.Author.Rules.{rules}
use Rattle.bits.specs.Once.{Unique}
use Rattle.bits.proofs.Same.{same}
use Rattle.keys.proofs.Unique.{same-unpacked}
use Rattle.refusals.proofs.Number.{same-judged}
use Rattle.settings.proofs.Told.{same-checked}
use Rattle.settings.specs.InUse.{unpacked}
use Rattle.settings.proofs.refusal.Kinds as refusal-k
use Rattle.settings.proofs.refusal.Reads as refusal
use Rattle.settings.proofs.unpack.Kinds as unpack-k
use Rattle.settings.proofs.unpack.Reads as unpack
use Rattle.settings.proofs.Settings.of.Kinds as of-k
use Rattle.settings.proofs.Settings.of.Reads as of
use Rattle.settings.proofs.Settings.checked.Kinds as checked-k
use Rattle.settings.proofs.Settings.checked.Reads as checked

pub refusal-unique : Unique refusal-k.ps refusal-k.r refusal.Asked refusal.Learnt
refusal-unique κs a g p x y = (same-judged (λ u v. refl) x.result y.result (same x.ensures y.ensures), refl)

pub unpack-unique : Unique unpack-k.ps unpack-k.r unpack.Asked unpack.Learnt
unpack-unique κs a g p x y = (same-unpacked (unpacked a.0 a.1.0.now) (search rules) (search rules) x.ensures y.ensures, refl)

pub of-unique : Unique of-k.ps of-k.r of.Asked of.Learnt
of-unique κs a g p x y = (same x.ensures y.ensures, refl)

pub checked-unique : Unique checked-k.ps checked-k.r checked.Asked checked.Learnt
checked-unique κs a g p x y = (same-checked x.result y.result (same x.ensures y.ensures), refl)
