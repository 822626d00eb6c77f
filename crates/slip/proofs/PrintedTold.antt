-- What is told of a slip that is written, of whatever is told and left where the definition says so: the number is that of the first
-- fault (`told-number`); what is refused leaves the room as it was and reports zeros (`told-untouched`); a written slip stands at the
-- front of the room, and the rest of the room is as it was (`told-written`); it is read back (`told-read`, `told-lot`), and an accepted
-- slip that is written again is that slip (`told-again`). PrintedAnswers.antt says so of the code's answers, and crate slipseal of those
-- of the function for C.
-- Assumes nothing.
use mathlib.Core.Path.{◌≡◌, refl, sym, ap, ap₂, ◌∙◌, subst}
use mathlib.Core.List.{List}
use Prim.Native.Nat.{ℕ, ◌≤◌}
use native.Mathlib.Omega.{arith}
use lib.ListN.{length, take, drop}
use lib.Seq.{take_at}
use Rattle.settings.proofs.Listed.{Among}
use Rattle.settings.specs.declared.Agreement.{Agreement}
use Rattle.writing.specs.Writing.{Says, said}
use Rattle.writing.proofs.ReadBack.{says_of}
use Rattle.slip.specs.Slip.{seal_calls, contents_of, accepted_slip, read_of, Reading}
use Rattle.slip.specs.Printed.{slip_of, slip_calls, written_slip, write_of, Writing}
use Rattle.slip.specs.declared.Contents.{Contents}
use Rattle.slip.proofs.LotInside.{lot-value}
use Rattle.slip.proofs.Whole.{Accepted}
use Rattle.slip.proofs.Numbers.{accepted-is}
use Rattle.slip.proofs.RoundTrip.{Writable, said_slip, printed-read, lot-printed, writable-again, read-printed, calls-again}
use Rattle.slip.proofs.Printable.{write_answers, written_as, written_of, unwritten_of, write_fault, write-numbers, writable, unwritten-is, written_is, write-number-is, clear_of}

module _ (A : Agreement) (keys : List ℕ) (x : Says) (room : List ℕ) (w : Writing) (left : List ℕ) (told : (w, left) ≡ write_of A keys x room) where
  abbrev fault : ℕ
  fault = write_fault A keys x room

  pub told-number : w.number ≡ fault
  told-number = ap (λ (r : Writing × List ℕ). r.0.number) told ∙ write-number-is A keys x room

  pub told-among : Among write_answers w.number
  told-among = subst (Among write_answers) (sym told-number) (write-numbers A keys x room)

  -- a refused call: its number and zeros, and the room as it was
  pub told-untouched : ¬ (w.number ≡ 0) → (w, left) ≡ unwritten_of fault room
  told-untouched some = told ∙ unwritten-is A keys x room (λ e. some (told-number ∙ e))

  module _ (good : w.number ≡ 0) where
    clear : fault ≡ 0
    clear = sym told-number ∙ good

    pub told-writable : Writable A keys x
    told-writable = (writable A keys x room clear).0

    -- a written slip: its length and calls, and the slip before the rest of the room
    pub told-written : (w, left) ≡ written_of A keys x room
    told-written = told ∙ written_is A keys x room clear

    pub told-length : w.length ≡ length (slip_of A keys x)
    unfolding written_slip
    told-length = ap (λ (r : Writing × List ℕ). r.0.length) told-written

    pub told-calls : w.calls ≡ slip_calls A keys x
    unfolding written_slip
    told-calls = ap (λ (r : Writing × List ℕ). r.0.calls) told-written

    -- the slip is the first bytes of the room, as many as were told
    slip-first : take w.length left ≡ slip_of A keys x
    slip-first = ap₂ (λ (n : ℕ) (r : List ℕ). take n r) told-length (ap (λ (r : Writing × List ℕ). r.1) told-written) ∙ take_at (slip_of A keys x) _ _ refl

    -- read under the same agreement and keys, it is accepted, and gives date, amount, calls and the lot's place back
    pub told-read : (B : Agreement) (ks s : List ℕ) → B ≡ A → ks ≡ keys → s ≡ take w.length left → read_of B ks s ≡ said_slip x w.calls
    told-read B ks s agreed keyed lent =
        (λ i. read_of (agreed i) (keyed i) ((lent ∙ slip-first) i)) ∙ printed-read A keys x told-writable ∙ ap (said_slip x) (sym told-calls)

    -- the lot's bytes are there
    pub told-lot : take (length x.lot) (drop 14 (take w.length left)) ≡ x.lot
    told-lot = ap (λ (s : List ℕ). take (length x.lot) (drop 14 s)) slip-first ∙ lot-printed A keys x told-writable

-- ---- a slip that was accepted, written again

-- what is said again: the contents that were read, with the lot's bytes
abbrev pub said_again : Contents → List ℕ → Says
said_again c s = said c.date.year c.date.month c.date.day (take c.lot_len (drop c.lot_at s)) c.amount

module _ (A : Agreement) (keys s : List ℕ) (yes : Accepted A keys s) where
  contents-are : (read_of A keys s).contents ≡ contents_of s
  unfolding accepted_slip
  contents-are = ap (λ (r : Reading). r.contents) (accepted-is A keys s yes)

  calls_are : (read_of A keys s).calls ≡ seal_calls A s keys
  unfolding accepted_slip
  calls_are = ap (λ (r : Reading). r.calls) (accepted-is A keys s yes)

  same-says : said_again (read_of A keys s).contents s ≡ says_of s
  unfolding contents_of
  same-says =
      ap (λ (c : Contents). said_again c s) contents-are
      ∙ ap (λ (lot : List ℕ). said (contents_of s).date.year (contents_of s).date.month (contents_of s).date.day lot (contents_of s).amount) (lot-value s)

  -- it comes out byte for byte, with its length and the calls that were read
  pub told-again : (room : List ℕ) → length s ≤ length room → write_of A keys (said_again (read_of A keys s).contents s) room ≡ written_as s (read_of A keys s).calls room
  told-again room fits =
      let same = read-printed A keys s yes in
      ap (λ (x : Says). write_of A keys x room) same-says
      ∙ written_is A keys (says_of s) room (clear_of A keys (says_of s) room (writable-again A keys s yes) (omega (arith, ap length same, fits)))
      ∙ ap₂ (λ (t : List ℕ) (n : ℕ). written_as t n room) same (calls-again A keys s yes ∙ sym calls_are)
