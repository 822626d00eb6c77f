-- Which numbers a call of a session can answer: 0 and those of its order, of every answer that the contracts allow (`start-answers`,
-- `start-check-answers`, `piece-answers`, `finish-answers`, `finish-check-answers`). The retired 6 is not among them.
-- Assumes nothing.
use Rattle.std.proofs.Common.{refl, sym, subst, not, List, [], ◌∷◌, ℕ}
use contract.Lifetimes.{Lfts}
use borrow.Fn.Kinds.{Dens}
use Rattle.bits.specs.Choice.{pick, Fault, ◌given◌, first_of, one_of}
use Rattle.bits.proofs.Faults.{all, with, every_append}
use Rattle.settings.specs.Answers.{number_of, settings_of}
use Rattle.settings.specs.declared.Agreement.{Agreement}
use Rattle.settings.proofs.Sound.{agreement-every}
use Rattle.settings.proofs.Listed.{Among, among}
use Rattle.message.specs.Faults.{too_few_blocks}
use Rattle.session.specs.declared.Session.{Session}
use Rattle.session.specs.Calls.{Stepped, stepped, start_faults, start_of, start_check_faults, start_check_of, piece_faults, piece_of, falls_short, end_faults, finish_faults, finish_of, finish_check_faults, finish_check_of}
use Rattle.session.specs.Record.{is_check, counts_closed}
use Rattle.session.proofs.start.Kinds as start-k
use Rattle.session.proofs.start_check.Kinds as start-check-k
use Rattle.session.proofs.Session.piece.Kinds as piece-k
use Rattle.session.proofs.Session.finish.Kinds as finish-k
use Rattle.session.proofs.Session.finish_check.Kinds as finish-check-k
use Rattle.session.proofs.Answers.{start-faults}
use Rattle.session.proofs.OneStep.{piece-faults, finish-faults, finish-check-faults, start-check-faults}
use Rattle.session.proofs.Run.{Started, Pieced, Finished, FinishedCheck}
use Rattle.session.proofs.CheckRun.{StartedCheck}

abbrev pub start_answers : List ℕ
start_answers = 0 ∷ 1 ∷ 2 ∷ 3 ∷ 4 ∷ 5 ∷ 8 ∷ []

abbrev pub start_check_answers : List ℕ
start_check_answers = 0 ∷ 1 ∷ 2 ∷ 3 ∷ 4 ∷ 5 ∷ 8 ∷ 10 ∷ []

abbrev pub piece_answers : List ℕ
piece_answers = 0 ∷ 7 ∷ 8 ∷ 11 ∷ 12 ∷ []

abbrev pub finish_answers : List ℕ
finish_answers = 0 ∷ 9 ∷ 10 ∷ 11 ∷ 12 ∷ []

-- the expected tag was judged for its length at the start
abbrev pub finish_check_answers : List ℕ
finish_check_answers = 0 ∷ 9 ∷ 11 ∷ 12 ∷ []

-- ---- by the definition

module _ (A : Agreement) (s : List ℕ) (d : ℕ) where
  pub start-among : Among start_answers (number_of (start_of A s d).answer)
  unfolding start_faults one_of
  start-among = among start_answers refl refl (start-faults A s d) (every_append (agreement-every refl refl refl refl refl A s) (with refl all))

  pub start-check-among : (tag : List ℕ) → Among start_check_answers (number_of (start_check_of A s d tag).answer)
  unfolding start_check_faults start_faults one_of
  start-check-among tag =
      among start_check_answers refl refl (start-check-faults A s d tag) (every_append (every_append (agreement-every refl refl refl refl refl A s) (with refl all)) (with refl all))

module _ (s : Session) where
  pub piece-among : (bytes : List ℕ) (bits : ℕ) → Among piece_answers (number_of (piece_of s bytes bits).answer)
  unfolding piece_faults one_of
  piece-among bytes bits = among piece_answers refl refl (piece-faults s (record { bytes = bytes; bits = bits })) (with refl (with refl (with refl (with refl (with refl all)))))

  pub finish-among : (room : List ℕ) → Among finish_answers (number_of (finish_of s room).0.answer)
  unfolding finish_faults end_faults one_of
  finish-among room = among finish_answers refl refl (finish-faults s room) (with refl (with refl (with refl (with refl (with refl all)))))

  -- the last test, which is 10's, finds nothing
  abbrev without_ten : List Fault
  without_ten =
      11 given counts_closed s ∷
      11 given not (is_check s.purpose) ∷
      12 given falls_short s.agreement.padding s.declared s.total ∷
      9 given too_few_blocks (settings_of s.agreement) s.total ∷
      []

  pub finish-check-among : Among finish_check_answers (number_of (finish_check_of s).answer)
  unfolding finish_check_faults end_faults first_of pick one_of
  finish-check-among = among finish_check_answers refl refl {fs = without_ten} (finish-check-faults s) (with refl (with refl (with refl (with refl all))))

-- ---- of every answer

module _ (κs : Lfts 1) where
  pub start-answers : (a : Dens κs start-k.ps) (x : Started κs a) → Among start_answers (number_of (stepped x.result).answer)
  start-answers a x = subst (λ (r : Stepped). Among start_answers (number_of r.answer)) (sym x.ensures) (start-among a.0 a.1.0.now a.1.1.0)

  pub piece-answers : (a : Dens κs piece-k.ps) (x : Pieced κs a) → Among piece_answers (number_of (stepped x.result).answer)
  piece-answers a x = subst (λ (r : Stepped). Among piece_answers (number_of r.answer)) (sym x.ensures) (piece-among a.0 a.1.0.now a.1.1.0)

  pub finish-answers : (a : Dens κs finish-k.ps) (x : Finished κs a) → Among finish_answers (number_of (stepped x.result).answer)
  finish-answers a x = subst (λ (r : Stepped × List ℕ). Among finish_answers (number_of r.0.answer)) (sym x.ensures) (finish-among a.0 a.1.0.now)

pub start-check-answers : (κs : Lfts 2) (a : Dens κs start-check-k.ps) (x : StartedCheck κs a) → Among start_check_answers (number_of (stepped x.result).answer)
start-check-answers κs a x = subst (λ (r : Stepped). Among start_check_answers (number_of r.answer)) (sym x.ensures) (start-check-among a.0 a.1.0.now a.1.1.0 a.1.1.1.0.now)

pub finish-check-answers : (κs : Lfts 0) (a : Dens κs finish-check-k.ps) (x : FinishedCheck κs a) → Among finish_check_answers (number_of (stepped x.result).answer)
finish-check-answers κs a x = subst (λ (r : Stepped). Among finish_check_answers (number_of r.answer)) (sym x.ensures) (finish-check-among a.0)
