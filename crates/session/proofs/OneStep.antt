-- One call on a session, whatever it is given. Its number is that of the first fault in the call's list (`piece-faults`,
-- `finish-faults`, `finish-check-faults`, `start-check-faults`). Without a fault it takes the bits or closes (`piece-taken`,
-- `finish-clears`, `finish-check-closes`); a refused one hands back the very record (`refused-piece`, `refused-finish`,
-- `refused-check`).
-- Assumes nothing.
use Rattle.std.proofs.Common.{◌≡◌, refl, sym, ap, ◌∙◌, List, [], ◌∷◌, ℕ, length}
use Rattle.bits.specs.Choice.{◌given◌, first_of}
use Rattle.bits.specs.Str.{Bits}
use Rattle.bits.proofs.Faults.{Clear, first-clear, clear-append}
use Rattle.mac.specs.Tag.{bits_of}
use Rattle.settings.specs.Answers.{number_of, Told, Accepted, Refused}
use Rattle.settings.specs.declared.Agreement.{Agreement}
use Rattle.settings.proofs.Numbers.{Unrefused, number-chosen, sound-chosen, refused-chosen}
use Rattle.message.specs.Faults.{tag_length_wrong}
use Rattle.tag.proofs.Numbers.{alike}
use Rattle.session.specs.declared.Session.{Session}
use Rattle.session.specs.Calls.{Stepped, start_faults, refused_start, start_check_faults, start_check_of, piece_faults, fed_of, piece_of, finish_faults, finish_check_faults, calls_in, finish_of, judged_of, finish_check_of}
use Rattle.session.specs.Record.{cleared}
use Rattle.session.proofs.Answers.{of-step, start-check-numbered}

-- ---- the start of a check

module _ (A : Agreement) (s : List ℕ) (d : ℕ) (tag : List ℕ) where
  pub start-check-faults : number_of (start_check_of A s d tag).answer ≡ first_of (start_check_faults A s d (length tag))
  unfolding start_check_of refused_start number_of
  start-check-faults = number-chosen of-step (first_of (start_check_faults A s d (length tag))) _ _ refl refl

  -- all faults that the start of a check looks for are away
  pub start-check-clear : Unrefused (start_check_of A s d tag).answer → Clear (start_faults A s d) × Clear (10 given tag_length_wrong A.m (length tag) ∷ [])
  unfolding start_check_faults
  start-check-clear u = clear-append (start_faults A s d) _ (first-clear _ (start-check-numbered A s d (length tag)) (sym start-check-faults ∙ u))

-- ---- a piece

pub record Offered : Type 0 where
  pub bytes : List ℕ
  pub bits : ℕ

abbrev pub bits_in : Offered → Bits
bits_in q = bits_of q.bytes q.bits

abbrev pub offer : Session → Offered → Stepped
offer s q = piece_of s q.bytes q.bits

pub piece-faults : (s : Session) (q : Offered) → number_of (offer s q).answer ≡ first_of (piece_faults s (length q.bytes) q.bits)
unfolding piece_of number_of
piece-faults s q = number-chosen of-step (first_of (piece_faults s (length q.bytes) q.bits)) _ _ refl refl

pub piece-sound : (s : Session) (q : Offered) → Unrefused (offer s q).answer → first_of (piece_faults s (length q.bytes) q.bits) ≡ 0
piece-sound s q u = sym (piece-faults s q) ∙ u

pub piece-taken : (s : Session) (q : Offered) → Unrefused (offer s q).answer → offer s q ≡ record { answer = Accepted; session = fed_of s (bits_in q) }
unfolding piece_of
piece-taken s q u = sound-chosen of-step _ _ _ (piece-sound s q u)

abbrev pub RefusedPiece : Type 0
RefusedPiece = (s : Session) (q : Offered) → ¬ (Unrefused (offer s q).answer) → (offer s q).session ≡ s

pub refused-piece : RefusedPiece
unfolding piece_of number_of
refused-piece s q u =
    let n = first_of (piece_faults s (length q.bytes) q.bits) in
    ap (λ (r : Stepped). r.session) (refused-chosen of-step n (record { answer = Accepted; session = fed_of s (bits_in q) }) (record { answer = Refused n; session = s }) refl u)

-- ---- a finish

-- the shape of what comes: an answer with a record and a room
abbrev pub of_end : Stepped × List ℕ → Told
of_end r = r.0.answer

pub finish-faults : (s : Session) (room : List ℕ) → number_of (finish_of s room).0.answer ≡ first_of (finish_faults s (length room))
unfolding finish_of number_of
finish-faults s room = number-chosen of_end (first_of (finish_faults s (length room))) _ _ refl refl

pub finish-sound : (s : Session) (room : List ℕ) → Unrefused (finish_of s room).0.answer → first_of (finish_faults s (length room)) ≡ 0
finish-sound s room u = sym (finish-faults s room) ∙ u

pub finish-clears : (s : Session) (room : List ℕ) → Unrefused (finish_of s room).0.answer → (finish_of s room).0.session ≡ cleared
unfolding finish_of
finish-clears s room u = ap (λ (r : Stepped × List ℕ). r.0.session) (sound-chosen of_end _ _ _ (finish-sound s room u))

abbrev pub RefusedFinish : Type 0
RefusedFinish = (s : Session) (room : List ℕ) → ¬ (Unrefused (finish_of s room).0.answer) → ((finish_of s room).0.session ≡ s) × ((finish_of s room).1 ≡ room)

pub refused-finish : RefusedFinish
unfolding finish_of number_of
refused-finish s room u =
    let n = first_of (finish_faults s (length room)) in
    let e = refused-chosen of_end n _ (record { answer = Refused n; session = s }, room) refl u in
    (ap (λ (r : Stepped × List ℕ). r.0.session) e, ap (λ (r : Stepped × List ℕ). r.1) e)

-- ---- the finish of a check

-- yes and no have number 0
judged-number : (s : Session) → number_of (judged_of s) ≡ 0
unfolding judged_of number_of
judged-number s = alike number_of _ (calls_in s) 0 refl refl

pub finish-check-faults : (s : Session) → number_of (finish_check_of s).answer ≡ first_of (finish_check_faults s)
unfolding finish_check_of number_of
finish-check-faults s = number-chosen of-step (first_of (finish_check_faults s)) _ _ (judged-number s) refl

pub finish-check-sound : (s : Session) → Unrefused (finish_check_of s).answer → first_of (finish_check_faults s) ≡ 0
finish-check-sound s u = sym (finish-check-faults s) ∙ u

-- yes and no close
pub finish-check-closes : (s : Session) → Unrefused (finish_check_of s).answer → finish_check_of s ≡ record { answer = judged_of s; session = cleared }
unfolding finish_check_of
finish-check-closes s u = sound-chosen of-step _ _ _ (finish-check-sound s u)

abbrev pub RefusedCheck : Type 0
RefusedCheck = (s : Session) → ¬ (Unrefused (finish_check_of s).answer) → (finish_check_of s).session ≡ s

pub refused-check : RefusedCheck
unfolding finish_check_of
refused-check s u =
    let n = first_of (finish_check_faults s) in
    ap (λ (r : Stepped). r.session) (refused-chosen of-step n _ (record { answer = Refused n; session = s }) (judged-number s) u)
