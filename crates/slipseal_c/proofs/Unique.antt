-- No second answer satisfies the contract of any function that C calls: each is one equation of structs, and of the lent room.
-- Assumes nothing.
use Rattle.bits.specs.Once.{Unique}
use Rattle.slipseal.proofs.Unique as slipseal
use Rattle.slipseal_c.proofs.slipseal_make.Kinds as make-k
use Rattle.slipseal_c.proofs.slipseal_make.Reads as slipseal-make
use Rattle.slipseal_c.proofs.slipseal_check.Kinds as check-k
use Rattle.slipseal_c.proofs.slipseal_check.Reads as slipseal-check
use Rattle.slipseal_c.proofs.slipseal_restore.Kinds as restore-k
use Rattle.slipseal_c.proofs.slipseal_restore.Reads as slipseal-restore
use Rattle.slipseal_c.proofs.slipseal_start.Kinds as start-k
use Rattle.slipseal_c.proofs.slipseal_start.Reads as slipseal-start
use Rattle.slipseal_c.proofs.slipseal_start_check.Kinds as start-check-k
use Rattle.slipseal_c.proofs.slipseal_start_check.Reads as slipseal-start-check
use Rattle.slipseal_c.proofs.slipseal_piece.Kinds as piece-k
use Rattle.slipseal_c.proofs.slipseal_piece.Reads as slipseal-piece
use Rattle.slipseal_c.proofs.slipseal_finish.Kinds as finish-k
use Rattle.slipseal_c.proofs.slipseal_finish.Reads as slipseal-finish
use Rattle.slipseal_c.proofs.slipseal_finish_check.Kinds as finish-check-k
use Rattle.slipseal_c.proofs.slipseal_finish_check.Reads as slipseal-finish-check
use Rattle.slipseal_c.proofs.slipseal_read.Kinds as read-k
use Rattle.slipseal_c.proofs.slipseal_read.Reads as slipseal-read
use Rattle.slipseal_c.proofs.slipseal_gather.Kinds as gather-k
use Rattle.slipseal_c.proofs.slipseal_gather.Reads as slipseal-gather
use Rattle.slipseal_c.proofs.slipseal_read_gathered.Kinds as read-gathered-k
use Rattle.slipseal_c.proofs.slipseal_read_gathered.Reads as slipseal-read-gathered
use Rattle.slipseal_c.proofs.slipseal_write.Kinds as write-k
use Rattle.slipseal_c.proofs.slipseal_write.Reads as slipseal-write

pub make-unique : Unique make-k.ps make-k.r slipseal-make.Asked slipseal-make.Learnt
make-unique = slipseal.make-unique

pub check-unique : Unique check-k.ps check-k.r slipseal-check.Asked slipseal-check.Learnt
check-unique = slipseal.check-unique

pub restore-unique : Unique restore-k.ps restore-k.r slipseal-restore.Asked slipseal-restore.Learnt
restore-unique = slipseal.restore-unique

pub start-unique : Unique start-k.ps start-k.r slipseal-start.Asked slipseal-start.Learnt
start-unique = slipseal.start-unique

pub start-check-unique : Unique start-check-k.ps start-check-k.r slipseal-start-check.Asked slipseal-start-check.Learnt
start-check-unique = slipseal.start-check-unique

pub piece-unique : Unique piece-k.ps piece-k.r slipseal-piece.Asked slipseal-piece.Learnt
piece-unique = slipseal.piece-unique

pub finish-unique : Unique finish-k.ps finish-k.r slipseal-finish.Asked slipseal-finish.Learnt
finish-unique = slipseal.finish-unique

pub finish-check-unique : Unique finish-check-k.ps finish-check-k.r slipseal-finish-check.Asked slipseal-finish-check.Learnt
finish-check-unique = slipseal.finish-check-unique

pub read-unique : Unique read-k.ps read-k.r slipseal-read.Asked slipseal-read.Learnt
read-unique = slipseal.read-unique

pub gather-unique : Unique gather-k.ps gather-k.r slipseal-gather.Asked slipseal-gather.Learnt
gather-unique = slipseal.gather-unique

pub read-gathered-unique : Unique read-gathered-k.ps read-gathered-k.r slipseal-read-gathered.Asked slipseal-read-gathered.Learnt
read-gathered-unique = slipseal.read-gathered-unique

pub write-unique : Unique write-k.ps write-k.r slipseal-write.Asked slipseal-write.Learnt
write-unique = slipseal.write-unique
