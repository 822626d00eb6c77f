-- A call through C is a call of the library under what was agreed: the first argument as the library takes it, the others as they are
-- (of a slip to be written, its date, lot and amount as one). So what crates tag and slip say of their calls is said of those through
-- C. What `slipseal_write` tells is what is told of a slip that `write_of` gives (`written_told`).
-- Assumes nothing.
use Rattle.std.proofs.Common.{◌≡◌, ap, List, ℕ}
use contract.Lifetimes.{Lfts}
use borrow.Fn.Kinds.{Dens}
use Rattle.bits.specs.Once.{Allowed}
use Rattle.tag.proofs.check.Kinds as tag-check
use Rattle.tag.proofs.restore.Kinds as tag-restore
use Rattle.slip.proofs.read.Kinds as slip-read
use Rattle.slip.proofs.write.Kinds as slip-write
use Rattle.slip.specs.Printed.{Writing, write_of}
use Rattle.slip.proofs.PrintedAnswers.{keys_given, says_given, room_given}
use Rattle.slipseal.specs.declared.Written as row
use Rattle.slipseal.specs.Border.{agreed_of, told_write}
use Rattle.slipseal.proofs.slipseal_check.Kinds as check-k
use Rattle.slipseal.proofs.slipseal_restore.Kinds as restore-k
use Rattle.slipseal.proofs.slipseal_read.Kinds as read-k
use Rattle.slipseal.proofs.slipseal_write.Kinds as write-k
use Rattle.slipseal.proofs.slipseal_write.Reads as write

abbrev pub as_check : (κs : Lfts 3) → Dens κs check-k.ps → Dens κs tag-check.ps
as_check κs a = (agreed_of a.0, a.1)

abbrev pub as_restore : (κs : Lfts 3) → Dens κs restore-k.ps → Dens κs tag-restore.ps
as_restore κs a = (agreed_of a.0, a.1)

abbrev pub as_read : (κs : Lfts 2) → Dens κs read-k.ps → Dens κs slip-read.ps
as_read κs a = (agreed_of a.0, a.1)

abbrev pub as_write : (κs : Lfts 3) → Dens κs write-k.ps → Dens κs slip-write.ps
as_write κs a = (
  agreed_of a.0,
  (a.1.0, (record { date = record { year = a.1.1.0; month = a.1.1.1.0; day = a.1.1.1.1.0 }; lot = a.1.1.1.1.1.0; amount = a.1.1.1.1.1.1.0 }, a.1.1.1.1.1.1.1)),
)

abbrev pub Written : (κs : Lfts 3) → Dens κs write-k.ps → Type 0
Written κs a = Allowed write-k.ps write-k.r write.Learnt κs a

-- what is told of a written slip, as the definition tells it
abbrev pub writing_in : row.Written → Writing
writing_in r = record { number = r.number; length = r.length; calls = r.calls }

module _ (κs : Lfts 3) (a : Dens κs write-k.ps) (x : Written κs a) where
  -- the room at the end
  abbrev pub left : List ℕ
  left = x.last.1.1.1.1.1.1.1.0

  pub written_told : (writing_in x.result, left) ≡ write_of (agreed_of a.0) (keys_given κs (as_write κs a)) (says_given κs (as_write κs a)) (room_given κs (as_write κs a))
  unfolding told_write
  written_told = ap (λ (r : row.Written × List ℕ). (writing_in r.0, r.1)) x.ensures
