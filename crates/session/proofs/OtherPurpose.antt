-- What the purpose of a record decides and what it does not. A finish of the other purpose gets 11 and hands back the very record,
-- whatever else it holds (`other-finish`, `other-check`). A record whose purpose is making is finished by the faults 11, 12, 9 and 10
-- alone (`as_before`). Nothing else reads purpose or expected tag: a piece does the same to the record of any purpose (`piece-aimed`,
-- `piece-keeps`), the expected bytes have no part in making a tag (`finish-aimed`), and those past the agreed bits none in checking one
-- (`check-aimed`).
-- Assumes nothing.
use Rattle.std.proofs.Common.{◌≡◌, refl, sym, ap, ◌∙◌, Bool, true, false, not, List, [], ◌∷◌, ◌++◌, ℕ, eqb, length, take, drop}
use Rattle.bits.specs.Choice.{pick, ◌given◌, first_of}
use Rattle.bits.specs.Str.{same_row}
use Rattle.bits.proofs.Choice.{pick-ap, either_way}
use Rattle.mac.specs.Tag.{bits_of, bytes_for, tag_bytes}
use Rattle.settings.specs.Answers.{settings_of, Told, Accepted, Made, Yes, No, Refused}
use Rattle.message.specs.Faults.{too_few_blocks, room_short}
use Rattle.session.specs.declared.Purpose.{Purpose}
use Rattle.session.specs.declared.Purpose.TheVariants.{Making, Checking}
use Rattle.session.specs.declared.Session.{Session}
use Rattle.session.specs.Calls.{Stepped, piece_faults, fed_of, piece_of, falls_short, end_faults, finish_faults, finish_check_faults, tag_in, calls_in, finish_of, judged_of, finish_check_of}
use Rattle.session.specs.Record.{cleared, state_in, aimed, is_check, closed_faults, counts_closed}
use Rattle.session.proofs.Answers.{of-step, chosen-alike}
use Rattle.session.proofs.Purposes.{aimed-fed, aimed-piece, aimed-end}

module _ (s : Session) where
  -- closed or not, 11 is the first
  other-first : (ten : Bool) → first_of (end_faults s true ten) ≡ 11
  unfolding end_faults first_of pick
  other-first ten = either_way (λ (k : ℕ). k) (counts_closed s) refl refl

  pub other-finish : s.purpose ≡ Checking → (room : List ℕ) → finish_of s room ≡ (record { answer = Refused 11; session = s }, room)
  unfolding finish_of finish_faults is_check pick
  other-finish e room =
      let no : first_of (end_faults s (is_check s.purpose) (room_short s.agreement.m (length room))) ≡ 11 = ap (λ (p : Purpose). first_of (end_faults s (is_check p) (room_short s.agreement.m (length room)))) e ∙ other-first (room_short s.agreement.m (length room)) in
      rw no refl

  pub other-check : s.purpose ≡ Making → finish_check_of s ≡ record { answer = Refused 11; session = s }
  unfolding finish_check_of finish_check_faults is_check pick
  other-check e =
      let no : first_of (end_faults s (not (is_check s.purpose)) false) ≡ 11 = ap (λ (p : Purpose). first_of (end_faults s (not (is_check p)) false)) e ∙ other-first false in
      rw no refl

  -- a session that makes a tag
  module _ (room : List ℕ) where
    abbrev fault : ℕ
    fault = first_of (
        11 given counts_closed s ∷
        12 given falls_short s.agreement.padding s.declared s.total ∷
        9 given too_few_blocks (settings_of s.agreement) s.total ∷
        10 given room_short s.agreement.m (length room) ∷
        [])

    pub as_before : s.purpose ≡ Making
        → finish_of s room
        ≡ pick (eqb fault 0)
        (record { answer = Made (calls_in s); session = cleared }, tag_bytes (tag_in s) ++ drop (bytes_for s.agreement.m) room)
        (record { answer = Refused fault; session = s }, room)
    unfolding finish_of finish_faults end_faults is_check first_of pick
    as_before e =
        let same : first_of (end_faults s (is_check s.purpose) (room_short s.agreement.m (length room))) ≡ fault = ap (λ (p : Purpose). first_of (end_faults s (is_check p) (room_short s.agreement.m (length room)))) e in
        rw same refl

-- ---- the record of another purpose, or with another tag expected

-- a step whose record is for another purpose
abbrev pub onward : Purpose → List ℕ → Stepped → Stepped
onward p e r = record r { session = aimed p e r.session }

pub piece-aimed : (p : Purpose) (e : List ℕ) (s : Session) (bytes : List ℕ) (bits : ℕ) → piece_of (aimed p e s) bytes bits ≡ onward p e (piece_of s bytes bits)
unfolding piece_of
piece-aimed p e s bytes bits =
    ap (λ (n : ℕ). pick (eqb n 0) (record { answer = Accepted; session = fed_of (aimed p e s) (bits_of bytes bits) }) (record { answer = Refused n; session = aimed p e s })) (ap first_of (aimed-piece p e s (length bytes) bits))
    ∙ ap (λ (t : Session). pick (eqb no 0) (record { answer = Accepted; session = t }) (record { answer = Refused no; session = aimed p e s })) (aimed-fed p e s (bits_of bytes bits))
    ∙ sym (pick-ap (onward p e) (eqb no 0) (record { answer = Accepted; session = fed_of s (bits_of bytes bits) }) (record { answer = Refused no; session = s }))
  where
    no : ℕ
    no = first_of (piece_faults s (length bytes) bits)

-- so a piece, refused or not, keeps both
pub piece-keeps : (s : Session) (bytes : List ℕ) (bits : ℕ) → ((piece_of s bytes bits).session.purpose ≡ s.purpose) × ((piece_of s bytes bits).session.expected ≡ s.expected)
unfolding aimed
piece-keeps s bytes bits =
    let same : piece_of s bytes bits ≡ onward s.purpose s.expected (piece_of s bytes bits) = piece-aimed s.purpose s.expected s bytes bits in
    (ap (λ (r : Stepped). r.session.purpose) same, ap (λ (r : Stepped). r.session.expected) same)

-- the answer and the room
abbrev pub outcome : Stepped × List ℕ → Told × List ℕ
outcome r = (r.0.answer, r.1)

pub finish-aimed : (e : List ℕ) (s : Session) (room : List ℕ) → s.purpose ≡ Making → outcome (finish_of (aimed Making e s) room) ≡ outcome (finish_of s room)
unfolding aimed counts_closed closed_faults tag_in state_in calls_in
finish-aimed e s room mine = ap outcome (as_before (aimed Making e s) room refl) ∙ chosen-alike outcome (eqb (fault s room) 0) refl refl ∙ sym (ap outcome (as_before s room mine))

pub check-aimed : (e : List ℕ) (s : Session) → s.purpose ≡ Checking → take (bytes_for s.agreement.m) e ≡ take (bytes_for s.agreement.m) s.expected
    → (finish_check_of (aimed Checking e s)).answer ≡ (finish_check_of s).answer
unfolding finish_check_of finish_check_faults judged_of aimed tag_in calls_in state_in
check-aimed e s mine same = ap (λ (n : ℕ). answer (aimed Checking e s) n) faults ∙ chosen-alike of-step (eqb no 0) judged refl
  where
    no : ℕ
    no = first_of (finish_check_faults s)

    answer : Session → ℕ → Told
    answer t n = (pick {A = Stepped} (eqb n 0) (record { answer = judged_of t; session = cleared }) (record { answer = Refused n; session = t })).answer

    faults : first_of (finish_check_faults (aimed Checking e s)) ≡ no
    faults = ap first_of (aimed-end Checking e s _ false) ∙ ap (λ (p : Purpose). first_of (end_faults s (not (is_check p)) false)) (sym mine)

    judged : judged_of (aimed Checking e s) ≡ judged_of s
    judged = ap (λ (w : List ℕ). pick (same_row w (tag_bytes (tag_in s))) (Yes (calls_in s)) (No (calls_in s))) same
