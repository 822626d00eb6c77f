-- No second answer satisfies any public function's contract.
-- Assumes nothing.
use Rattle.std.proofs.Common.{refl, ap}
use Rattle.bits.specs.Once.{Unique}
use Rattle.bits.proofs.Same.{same}
use Rattle.refusals.proofs.Number.{same-judged}
use Rattle.fields.specs.Layout.{LayoutTold}
use Rattle.fields.proofs.byte_at.Kinds as byte-at-k
use Rattle.fields.proofs.byte_at.Reads as byte_at
use Rattle.fields.proofs.year.Kinds as year-k
use Rattle.fields.proofs.year.Reads as year
use Rattle.fields.proofs.month.Kinds as month-k
use Rattle.fields.proofs.month.Reads as month
use Rattle.fields.proofs.day.Kinds as day-k
use Rattle.fields.proofs.day.Reads as day
use Rattle.fields.proofs.lot_length.Kinds as lot-length-k
use Rattle.fields.proofs.lot_length.Reads as lot-length
use Rattle.fields.proofs.amount.Kinds as amount-k
use Rattle.fields.proofs.amount.Reads as amount
use Rattle.fields.proofs.laid_out.Kinds as laid-out-k
use Rattle.fields.proofs.laid_out.Reads as laid_out
use Rattle.fields.proofs.outside.Kinds as outside-k
use Rattle.fields.proofs.outside.Reads as outside
use Rattle.fields.proofs.any_outside.Kinds as any-outside-k
use Rattle.fields.proofs.any_outside.Reads as any-outside
use Rattle.fields.proofs.Date.read.Kinds as date-read-k
use Rattle.fields.proofs.Date.read.Reads as date-read
use Rattle.fields.proofs.Date.is_wrong.Kinds as date-wrong-k
use Rattle.fields.proofs.Date.is_wrong.Reads as date-wrong
use Rattle.fields.proofs.amount_wrong.Kinds as amount-wrong-k
use Rattle.fields.proofs.amount_wrong.Reads as amount-wrong

pub byte-at-unique : Unique byte-at-k.ps byte-at-k.r byte_at.Asked byte_at.Learnt
byte-at-unique κs a g p x y = (same x.ensures.0 y.ensures.0, refl)

pub year-unique : Unique year-k.ps year-k.r year.Asked year.Learnt
year-unique κs a g p x y = (same x.ensures y.ensures, refl)

pub month-unique : Unique month-k.ps month-k.r month.Asked month.Learnt
month-unique κs a g p x y = (same x.ensures y.ensures, refl)

pub day-unique : Unique day-k.ps day-k.r day.Asked day.Learnt
day-unique κs a g p x y = (same x.ensures y.ensures, refl)

pub date-read-unique : Unique date-read-k.ps date-read-k.r date-read.Asked date-read.Learnt
date-read-unique κs a g p x y = (same x.ensures y.ensures, refl)

pub lot-length-unique : Unique lot-length-k.ps lot-length-k.r lot-length.Asked lot-length.Learnt
lot-length-unique κs a g p x y = (same x.ensures y.ensures, refl)

pub amount-unique : Unique amount-k.ps amount-k.r amount.Asked amount.Learnt
amount-unique κs a g p x y = (same x.ensures y.ensures, refl)

pub laid-out-unique : Unique laid-out-k.ps laid-out-k.r laid_out.Asked laid_out.Learnt
laid-out-unique κs a g p x y =
    let told = same x.ensures y.ensures in
    let judged = same-judged (λ u v. refl) _ _ (ap (λ (t : LayoutTold). t.refusal) told) in
    (λ i. record { places = (told i).places; judged = judged i }, refl)

pub outside-unique : Unique outside-k.ps outside-k.r outside.Asked outside.Learnt
outside-unique κs a g p x y = (same x.ensures y.ensures, refl)

pub any-outside-unique : Unique any-outside-k.ps any-outside-k.r any-outside.Asked any-outside.Learnt
any-outside-unique κs a g p x y = (same x.ensures y.ensures, refl)

pub date-wrong-unique : Unique date-wrong-k.ps date-wrong-k.r date-wrong.Asked date-wrong.Learnt
date-wrong-unique κs a g p x y = (same x.ensures y.ensures, refl)

pub amount-wrong-unique : Unique amount-wrong-k.ps amount-wrong-k.r amount-wrong.Asked amount-wrong.Learnt
amount-wrong-unique κs a g p x y = (same x.ensures y.ensures, refl)
