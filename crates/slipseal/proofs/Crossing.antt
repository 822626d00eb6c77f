-- A session crosses the border and loses nothing: what goes out and comes in again is the very record (`out-and-in`), and a struct
-- whose phase is one of the three, with the part count that belongs to it, and whose purpose and master are 0 or 1 goes in and comes out
-- as it was (`in-and-out`). Any other struct counts as closed (`odd-purpose` for its purpose, `odd-master` for its master), and piece and
-- both finishes hand it back untouched (`odd-piece`, `odd-finish`, `odd-check`). In an agreement any number but 0 is a master
-- (`any-yes`).
-- Assumes nothing.
use Rattle.std.proofs.Common.{◌≡◌, refl, ap, Bool, true, false, not, List, ℕ, ◌<◌, lt-ltb, ne_eqb, eqb, ltb}
use Rattle.bits.specs.Choice.{pick, first_of}
use Rattle.bits.proofs.Choice.{either_way}
use Rattle.settings.specs.Answers.{number_of, reported_calls}
use Rattle.session.specs.declared.Phase.{Phase}
use Rattle.session.specs.declared.Phase.TheVariants.{Closed, Edge, Part}
use Rattle.session.specs.declared.Purpose.{Purpose}
use Rattle.session.specs.declared.Purpose.TheVariants.{Making, Checking}
use Rattle.settings.specs.declared.Agreement as settings-agreement
use Rattle.session.specs.declared.Session as session
use Rattle.session.specs.Record.{phase_unfit, closed_faults, counts_closed}
use Rattle.session.specs.Calls.{piece_faults, piece_of, end_faults, finish_faults, finish_of, finish_check_faults, finish_check_of}
use Rattle.slipseal.specs.declared.Agreement.{Agreement}
use Rattle.slipseal.specs.declared.Session.{Session}
use Rattle.slipseal.specs.declared.Step.{Step}
use Rattle.slipseal.specs.Border.{agreed_of, agreed_back, phase_from, phase_number, part_number, purpose_from, purpose_number, inward, outward, handed_back, finished_back, told_of}

-- ---- out and in

two-purposes : (q : Purpose) → ltb 1 (purpose_number q) ≡ false
two-purposes Making = refl
two-purposes Checking = refl

two-masters : (b : Bool) → ltb 1 (pick b 1 0) ≡ false
unfolding pick
two-masters true = refl
two-masters false = refl

phase-back : (p : Phase) (q : Purpose) (b : Bool) → phase_from (phase_number p) (part_number p) (purpose_number q) (pick b 1 0) ≡ p
unfolding pick
phase-back Closed q b = rw (two-purposes q, two-masters b) refl
phase-back Edge q b = rw (two-purposes q, two-masters b) refl
phase-back (Part n) q b = rw (two-purposes q, two-masters b) refl

purpose-back : (q : Purpose) → purpose_from (purpose_number q) ≡ q
unfolding pick
purpose-back Making = refl
purpose-back Checking = refl

agreed-back : (A : settings-agreement.Agreement) → agreed_of (agreed_back A) ≡ A
unfolding agreed_of pick
agreed-back A = go A.master
  where
    told : Bool → settings-agreement.Agreement
    told b = record { algorithm = A.algorithm; padding = A.padding; m = A.m; master = b }

    go : (b : Bool) → told (not (eqb (pick b 1 0) 0)) ≡ told b
    go true = refl
    go false = refl

-- any number but 0 is yes
pub any-yes : (A : Agreement) → ¬ (A.master ≡ 0) → (agreed_of A).master ≡ true
unfolding agreed_of
any-yes A some = ap not (ne_eqb A.master 0 some)

pub out-and-in : (s : session.Session) → inward (outward s) ≡ s
unfolding inward
out-and-in s = rw (phase-back s.phase s.purpose s.agreement.master, purpose-back s.purpose, agreed-back s.agreement) refl

-- ---- in and out

-- the three phases, with the part count that belongs to each
pub data Proper : ℕ → ℕ → Type 0 where
  shut : Proper 0 0
  edge : Proper 1 0
  part : (n : ℕ) → Proper 2 n

-- the two numbers of a purpose, and of a master
pub data Flag : ℕ → Type 0 where
  off : Flag 0
  on : Flag 1

not-odd : (q : ℕ) → Flag q → ltb 1 q ≡ false
not-odd _ off = refl
not-odd _ on = refl

-- a struct as a session has it
pub record Fit (r : Session) : Type 0 where
  pub phase : Proper r.phase r.part
  pub purpose : Flag r.purpose
  pub master : Flag r.agreement.master

phase-same : (phase n q b : ℕ) → Proper phase n → Flag q → Flag b → (phase_number (phase_from phase n q b) ≡ phase) × (part_number (phase_from phase n q b) ≡ n)
unfolding pick
phase-same _ _ q b shut h k = rw (not-odd q h, not-odd b k) (refl, refl)
phase-same _ _ q b edge h k = rw (not-odd q h, not-odd b k) (refl, refl)
phase-same _ _ q b (part n) h k = rw (not-odd q h, not-odd b k) (refl, refl)

purpose-kept : (q : ℕ) → Flag q → purpose_number (purpose_from q) ≡ q
unfolding pick
purpose-kept _ off = refl
purpose-kept _ on = refl

master-kept : (b : ℕ) → Flag b → pick (not (eqb b 0)) 1 0 ≡ b
unfolding pick
master-kept _ off = refl
master-kept _ on = refl

pub in-and-out : (r : Session) → Fit r → outward (inward r) ≡ r
unfolding inward agreed_of
in-and-out r h =
    let both = phase-same r.phase r.part r.purpose r.agreement.master h.phase h.purpose h.master in
    rw (both.0, both.1, purpose-kept r.purpose h.purpose, master-kept r.agreement.master h.master) refl

-- ---- a struct whose phase is read as closed

-- the answer to it: 11, no calls, and the struct itself
abbrev pub refused11 : Session → Step
refused11 r = record { answer = record { number = 11; yes = 0; calls = 0 }; session = r }

module _ (r : Session) where
  -- it is read as closed: it is closed, or its phase and part, its purpose or its master are none that a session has
  abbrev pub Odd : Type 0
  Odd = phase_from r.phase r.part r.purpose r.agreement.master ≡ Closed

  pub odd-purpose : 1 < r.purpose → Odd
  unfolding pick
  odd-purpose h = rw (lt-ltb 1 r.purpose h) refl

  pub odd-master : 1 < r.agreement.master → Odd
  unfolding pick
  odd-master h = rw (lt-ltb 1 r.agreement.master h) (either_way (λ (p : Phase). p) (ltb 1 r.purpose) refl refl)

  odd-closed : Odd → counts_closed (inward r) ≡ true
  unfolding inward counts_closed closed_faults first_of phase_unfit pick
  odd-closed e = rw e refl

  pub odd-piece : Odd → (bytes : List ℕ) (bits : ℕ) → handed_back r (piece_of (inward r) bytes bits) ≡ refused11 r
  unfolding handed_back told_of piece_of piece_faults first_of pick number_of reported_calls
  odd-piece e bytes bits = rw (odd-closed e) refl

  pub odd-finish : Odd → (room : List ℕ) → finished_back r (finish_of (inward r) room) ≡ (refused11 r, room)
  unfolding finished_back handed_back told_of finish_of finish_faults end_faults first_of pick number_of reported_calls
  odd-finish e room = rw (odd-closed e) refl

  pub odd-check : Odd → handed_back r (finish_check_of (inward r)) ≡ refused11 r
  unfolding handed_back told_of finish_check_of finish_check_faults end_faults first_of pick number_of reported_calls
  odd-check e = rw (odd-closed e) refl
