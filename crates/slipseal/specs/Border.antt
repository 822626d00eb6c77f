-- What crosses the border to C: document 01's numbers for each answer, what a slip says, and a session as numbers and arrays.
-- What the clauses for C cite is `unfoldable`, so that callers' goals stay short; its parts are `abbrev`.
-- Assumes nothing.
use Rattle.std.specs.Prelude.{Bool, not, List, ℕ, eqb, ltb}
use Rattle.bits.specs.Choice.{pick}
use Rattle.settings.specs.Answers.{Told, Accepted, Made, Yes, No, Refused, number_of, reported_calls}
use Rattle.settings.specs.declared.Agreement as settings-agreement
use Rattle.tag.specs.Restore.{Restored, restored_number}
use Rattle.session.specs.declared.Session as session
use Rattle.session.specs.declared.Phase.{Phase}
use Rattle.session.specs.declared.Phase.TheVariants.{Closed, Edge, Part}
use Rattle.session.specs.declared.Purpose.{Purpose}
use Rattle.session.specs.declared.Purpose.TheVariants.{Making, Checking}
use Rattle.session.specs.Calls.{Stepped}
use Rattle.slip.specs.Slip.{Reading}
use Rattle.slip.specs.Printed.{Writing}
use Rattle.slipseal.specs.declared.Agreement.{Agreement}
use Rattle.slipseal.specs.declared.Answer.{Answer}
use Rattle.slipseal.specs.declared.Session.{Session}
use Rattle.slipseal.specs.declared.Step.{Step}
use Rattle.slipseal.specs.declared.Slip.{Slip}
use Rattle.slipseal.specs.declared.Written.{Written}

-- ---- what was agreed

-- master: 0 for no, any other number for yes
unfoldable pub agreed_of : Agreement → settings-agreement.Agreement
agreed_of A = record { algorithm = A.algorithm; padding = A.padding; m = A.m; master = not (eqb A.master 0) }

-- 0 or 1
abbrev pub master_number : Bool → ℕ
master_number master = pick master 1 0

abbrev pub agreed_back : settings-agreement.Agreement → Agreement
agreed_back A = record { algorithm = A.algorithm; padding = A.padding; m = A.m; master = master_number A.master }

-- ---- answers

-- 1 for a tag made and for a tag checked to be right, in one call or at a finish; else 0
abbrev pub yes_of : Told → ℕ
yes_of Accepted = 0
yes_of (Made calls) = 1
yes_of (Yes calls) = 1
yes_of (No calls) = 0
yes_of (Refused number) = 0

unfoldable pub told_of : Told → Answer
told_of a = record { number = number_of a; yes = yes_of a; calls = reported_calls a }

unfoldable pub told_make : Told × List ℕ → Answer × List ℕ
told_make r = (told_of r.0, r.1)

-- a lost block's answer: 0, or the refusal's number
unfoldable pub told_restored : Restored × List ℕ → ℕ × List ℕ
told_restored r = (restored_number r.0, r.1)

-- what is read from a slip, in one row
unfoldable pub told_slip : Reading → Slip
told_slip r = record {
  number = r.number;
  year = r.contents.date.year;
  month = r.contents.date.month;
  day = r.contents.date.day;
  amount = r.contents.amount;
  calls = r.calls;
  lot_at = r.contents.lot_at;
  lot_len = r.contents.lot_len;
}

-- what is told of a slip that was written, and the room
abbrev pub told_written : Writing → Written
told_written w = record { number = w.number; length = w.length; calls = w.calls }

unfoldable pub told_write : Writing × List ℕ → Written × List ℕ
told_write r = (told_written r.0, r.1)

-- ---- in and out

-- 0 closed, 1 at a byte edge, 2 after a part byte; any other number, a part count at a byte edge, and a purpose or a master other than
-- 0 and 1 are closed
abbrev pub phase_from : ℕ → ℕ → ℕ → ℕ → Phase
phase_from phase part purpose master =
    pick (ltb 1 purpose) Closed
    (pick (ltb 1 master) Closed
    (pick (eqb phase 2) (Part part) (pick (eqb phase 1) (pick (eqb part 0) Edge Closed) Closed)))

-- 0 making, 1 checking
abbrev pub purpose_from : ℕ → Purpose
purpose_from purpose = pick (eqb purpose 1) Checking Making

abbrev pub purpose_number : Purpose → ℕ
purpose_number Making = 0
purpose_number Checking = 1

abbrev pub phase_number : Phase → ℕ
phase_number Closed = 0
phase_number Edge = 1
phase_number (Part n) = 2

abbrev pub part_number : Phase → ℕ
part_number Closed = 0
part_number Edge = 0
part_number (Part n) = n

unfoldable pub inward : Session → session.Session
inward r = record {
  phase = phase_from r.phase r.part r.purpose r.agreement.master;
  purpose = purpose_from r.purpose;
  agreement = agreed_of r.agreement;
  declared = r.declared;
  total = r.total;
  keys = r.keys;
  hold = record { value = r.chain; held = r.held };
  expected = r.expected;
}

abbrev pub outward : session.Session → Session
outward s = record {
  phase = phase_number s.phase;
  part = part_number s.phase;
  purpose = purpose_number s.purpose;
  agreement = agreed_back s.agreement;
  declared = s.declared;
  total = s.total;
  keys = s.keys;
  chain = s.hold.value;
  held = s.hold.held;
  expected = s.expected;
}

-- ---- the answer with a session

unfoldable pub handed_out : Stepped → Step
handed_out step = record { answer = told_of step.answer; session = outward step.session }

-- in a refusal the struct that came goes back as it came
unfoldable pub handed_back : Session → Stepped → Step
handed_back came step = pick (eqb (number_of step.answer) 0) (handed_out step) (record { answer = told_of step.answer; session = came })

unfoldable pub finished_back : Session → Stepped × List ℕ → Step × List ℕ
finished_back came r = (handed_back came r.0, r.1)
