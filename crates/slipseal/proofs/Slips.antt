-- Slips through C, said of every answer that the contracts of `slipseal_write` and `slipseal_read` allow: what was written is read
-- back under the same agreement and keys (`c-written-read`, `c-written-lot`), and an accepted slip written again from what was read is
-- that slip (`c-read-written`); an accepted slip names what was agreed (`c-read-agrees`); a refused call leaves the room
-- (`c-write-untouched`).
-- Assumes nothing.
use Rattle.std.proofs.Common.{◌≡◌, sym, ap, ◌∙◌, List, ℕ, length, take, drop}
use contract.Lifetimes.{Lfts}
use borrow.Fn.Kinds.{Dens}
use Rattle.bits.specs.Once.{Allowed}
use Rattle.settings.specs.declared.Agreement.{Agreement}
use Rattle.slip.specs.Printed.{write_of}
use Rattle.slip.specs.declared.Contents.{Contents}
use Rattle.slip.proofs.Whole.{Accepted}
use Rattle.slip.proofs.RoundTrip.{said_slip}
use Rattle.slip.proofs.Numbers.{accepted-by, keys_read, slip_read}
use Rattle.slip.proofs.Agreed.{Agrees, accepted-agrees}
use Rattle.slip.proofs.Printable.{unwritten_of, written_as}
use Rattle.slip.proofs.PrintedTold.{told-number, told-untouched, told-read, told-lot, said_again, told-again}
use Rattle.slip.proofs.PrintedAnswers.{keys_given, says_given, room_given, Again, again-said}
use Rattle.slip.proofs.write.Kinds as slip-write
use Rattle.slipseal.specs.declared.Slip.{Slip}
use Rattle.slipseal.specs.Border.{agreed_of, told_slip, told_write}
use Rattle.slipseal.proofs.AsAgreed.{as_read, as_write, Written, left, written_told}
use Rattle.slipseal.proofs.slipseal_read.Kinds as read-k
use Rattle.slipseal.proofs.slipseal_read.Reads as read
use Rattle.slipseal.proofs.slipseal_write.Kinds as write-k

abbrev pub Read : (κs : Lfts 2) → Dens κs read-k.ps → Type 0
Read κs a = Allowed read-k.ps read-k.r read.Learnt κs a

-- what was read, as `slip::read` tells it
abbrev pub contents_in : Slip → Contents
contents_in r = record { date = record { year = r.year; month = r.month; day = r.day }; amount = r.amount; lot_at = r.lot_at; lot_len = r.lot_len }

module _ (κs : Lfts 3) (a : Dens κs write-k.ps) (x : Written κs a) where
  abbrev w : Dens κs slip-write.ps
  w = as_write κs a

  -- a refused call: its number and zeros, and the room as it was
  pub c-write-untouched : ¬ (x.result.number ≡ 0) → (x.result, left κs a x) ≡ told_write (unwritten_of x.result.number (room_given κs w))
  unfolding told_write
  c-write-untouched some =
      ap told_write
      (told-untouched w.0 (keys_given κs w) (says_given κs w) (room_given κs w) _ _ (written_told κs a x) some
      ∙ ap (λ (n : ℕ). unwritten_of n (room_given κs w)) (sym (told-number w.0 (keys_given κs w) (says_given κs w) (room_given κs w) _ _ (written_told κs a x))))

  -- what was written is read back under the same agreement and keys
  module _ (good : x.result.number ≡ 0) (λs : Lfts 2) (b : Dens λs read-k.ps) (y : Read λs b)
      (agreed : agreed_of b.0 ≡ agreed_of a.0) (keyed : keys_read λs (as_read λs b) ≡ keys_given κs w) (lent : slip_read λs (as_read λs b) ≡ take x.result.length (left κs a x)) where
    pub c-written-read : y.result ≡ told_slip (said_slip (says_given κs w) x.result.calls)
    c-written-read =
        y.ensures
        ∙ ap told_slip (told-read w.0 (keys_given κs w) (says_given κs w) (room_given κs w) _ _ (written_told κs a x) good (agreed_of b.0) (keys_read λs (as_read λs b)) (slip_read λs (as_read λs b)) agreed keyed lent)

    -- and the lot that it names is the lot, byte for byte
    pub c-written-lot : take y.result.lot_len (drop y.result.lot_at (slip_read λs (as_read λs b))) ≡ (says_given κs w).lot
    unfolding told_slip
    c-written-lot =
        ap (λ (r : Slip). take r.lot_len (drop r.lot_at (slip_read λs (as_read λs b)))) c-written-read
        ∙ ap (λ (s : List ℕ). take (length (says_given κs w).lot) (drop 14 s)) lent ∙ told-lot w.0 (keys_given κs w) (says_given κs w) (room_given κs w) _ _ (written_told κs a x) good

module _ (λs : Lfts 2) (b : Dens λs read-k.ps) (y : Read λs b) (good : y.result.number ≡ 0) where
  abbrev A : Agreement
  A = agreed_of b.0

  abbrev keys : List ℕ
  keys = keys_read λs (as_read λs b)

  abbrev slip : List ℕ
  slip = slip_read λs (as_read λs b)

  c-accepted : Accepted A keys slip
  unfolding told_slip
  c-accepted = accepted-by A keys slip _ (ap (λ (r : Slip). r.number) y.ensures) good

  -- an accepted slip names what was agreed, and its seal has so many bits
  pub c-read-agrees : Agrees A keys slip
  c-read-agrees = accepted-agrees A keys slip c-accepted

  -- written again under the same agreement and keys from what was read, it is that slip
  module _ (κs : Lfts 3) (a : Dens κs write-k.ps) (x : Written κs a) (again : Again A keys slip (contents_in y.result) κs (as_write κs a)) where
    pub c-read-written : (x.result, left κs a x) ≡ told_write (written_as slip y.result.calls (room_given κs (as_write κs a)))
    unfolding told_slip told_write
    c-read-written =
        let told = y.ensures in
        let room = room_given κs (as_write κs a) in
        ap told_write
        (written_told κs a x ∙ again-said (contents_in y.result) again ∙ ap (λ (r : Slip). write_of A keys (said_again (contents_in r) slip) room) told
        ∙ told-again A keys slip c-accepted room again.room ∙ ap (λ (r : Slip). written_as slip r.calls room) (sym told))
