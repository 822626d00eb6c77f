-- No second answer satisfies the contract of any function for C: each is one equation of structs, and of the lent room.
-- Assumes nothing.
use Rattle.std.proofs.Common.{refl}
use Rattle.bits.specs.Once.{Unique}
use Rattle.bits.proofs.Same.{same}
use Rattle.slipseal.proofs.slipseal_make.Kinds as make-k
use Rattle.slipseal.proofs.slipseal_make.Reads as slipseal-make
use Rattle.slipseal.proofs.slipseal_check.Kinds as check-k
use Rattle.slipseal.proofs.slipseal_check.Reads as slipseal-check
use Rattle.slipseal.proofs.slipseal_restore.Kinds as restore-k
use Rattle.slipseal.proofs.slipseal_restore.Reads as slipseal-restore
use Rattle.slipseal.proofs.slipseal_start.Kinds as start-k
use Rattle.slipseal.proofs.slipseal_start.Reads as slipseal-start
use Rattle.slipseal.proofs.slipseal_start_check.Kinds as start-check-k
use Rattle.slipseal.proofs.slipseal_start_check.Reads as slipseal-start-check
use Rattle.slipseal.proofs.slipseal_piece.Kinds as piece-k
use Rattle.slipseal.proofs.slipseal_piece.Reads as slipseal-piece
use Rattle.slipseal.proofs.slipseal_finish.Kinds as finish-k
use Rattle.slipseal.proofs.slipseal_finish.Reads as slipseal-finish
use Rattle.slipseal.proofs.slipseal_finish_check.Kinds as finish-check-k
use Rattle.slipseal.proofs.slipseal_finish_check.Reads as slipseal-finish-check
use Rattle.slipseal.proofs.slipseal_read.Kinds as read-k
use Rattle.slipseal.proofs.slipseal_read.Reads as slipseal-read
use Rattle.slipseal.proofs.slipseal_gather.Kinds as gather-k
use Rattle.slipseal.proofs.slipseal_gather.Reads as slipseal-gather
use Rattle.slipseal.proofs.slipseal_read_gathered.Kinds as read-gathered-k
use Rattle.slipseal.proofs.slipseal_read_gathered.Reads as slipseal-read-gathered
use Rattle.slipseal.proofs.slipseal_write.Kinds as write-k
use Rattle.slipseal.proofs.slipseal_write.Reads as slipseal-write

pub make-unique : Unique make-k.ps make-k.r slipseal-make.Asked slipseal-make.Learnt
make-unique κs a g p x y = let e = same x.ensures y.ensures in (λ i. (e i).0, λ i. (tt, (tt, (tt, (tt, ((e i).1, tt))))))

pub check-unique : Unique check-k.ps check-k.r slipseal-check.Asked slipseal-check.Learnt
check-unique κs a g p x y = (same x.ensures y.ensures, refl)

pub restore-unique : Unique restore-k.ps restore-k.r slipseal-restore.Asked slipseal-restore.Learnt
restore-unique κs a g p x y = let e = same x.ensures y.ensures in (λ i. (e i).0, λ i. (tt, (tt, ((e i).1, (tt, (tt, (tt, tt)))))))

pub start-unique : Unique start-k.ps start-k.r slipseal-start.Asked slipseal-start.Learnt
start-unique κs a g p x y = (same x.ensures y.ensures, refl)

pub start-check-unique : Unique start-check-k.ps start-check-k.r slipseal-start-check.Asked slipseal-start-check.Learnt
start-check-unique κs a g p x y = (same x.ensures y.ensures, refl)

pub piece-unique : Unique piece-k.ps piece-k.r slipseal-piece.Asked slipseal-piece.Learnt
piece-unique κs a g p x y = (same x.ensures y.ensures, refl)

pub finish-unique : Unique finish-k.ps finish-k.r slipseal-finish.Asked slipseal-finish.Learnt
finish-unique κs a g p x y = let e = same x.ensures y.ensures in (λ i. (e i).0, λ i. (tt, ((e i).1, tt)))

pub finish-check-unique : Unique finish-check-k.ps finish-check-k.r slipseal-finish-check.Asked slipseal-finish-check.Learnt
finish-check-unique κs a g p x y = (same x.ensures y.ensures, refl)

pub read-unique : Unique read-k.ps read-k.r slipseal-read.Asked slipseal-read.Learnt
read-unique κs a g p x y = (same x.ensures y.ensures, refl)

pub gather-unique : Unique gather-k.ps gather-k.r slipseal-gather.Asked slipseal-gather.Learnt
gather-unique κs a g p x y = (same x.ensures y.ensures, refl)

pub read-gathered-unique : Unique read-gathered-k.ps read-gathered-k.r slipseal-read-gathered.Asked slipseal-read-gathered.Learnt
read-gathered-unique κs a g p x y = (same x.ensures y.ensures, refl)

pub write-unique : Unique write-k.ps write-k.r slipseal-write.Asked slipseal-write.Learnt
write-unique κs a g p x y = let e = same x.ensures y.ensures in (λ i. (e i).0, λ i. (tt, (tt, (tt, (tt, (tt, (tt, (tt, ((e i).1, tt)))))))))
