-- Which numbers the functions for C can answer: 0 and those of each one's order, of every answer that the contracts allow. The
-- retired 6 is not among them.
-- Assumes nothing.
use Rattle.std.proofs.Common.{sym, subst, List, ℕ}
use contract.Lifetimes.{Lfts}
use borrow.Fn.Kinds.{Dens}
use Rattle.settings.specs.Answers.{number_of}
use Rattle.settings.proofs.Listed.{Among}
use Rattle.tag.proofs.Listed.{call_answers, restore_answers, make-among, check-among, restore-among}
use Rattle.session.specs.Calls.{Stepped}
use Rattle.session.proofs.Listed.{start_answers, start_check_answers, piece_answers, finish_answers, finish_check_answers, start-among, start-check-among, piece-among, finish-among, finish-check-among}
use Rattle.slip.specs.Gathering.{held}
use Rattle.slip.proofs.Numbers.{slip_answers, slip-among}
use Rattle.slip.proofs.Printable.{write_answers}
use Rattle.slip.proofs.PrintedTold.{told-among}
use Rattle.slip.proofs.PrintedAnswers.{keys_given, says_given, room_given}
use Rattle.slipseal.specs.declared.Answer.{Answer}
use Rattle.slipseal.specs.declared.Session.{Session}
use Rattle.slipseal.specs.declared.Step.{Step}
use Rattle.slipseal.specs.declared.Slip.{Slip}
use Rattle.slipseal.specs.Border.{agreed_of, inward, handed_back, told_of, told_make, told_restored, told_slip, handed_out, finished_back}
use Rattle.slipseal.proofs.AsAgreed.{as_write, Written, written_told}
use Rattle.slipseal.proofs.EachCall.{Making, Started, Pieced, Finished, FinishedCheck, back-answer}
use Rattle.slipseal.proofs.CheckRuns.{StartedCheck, Checking}
use Rattle.slipseal.proofs.Slips.{Read}
use Rattle.slipseal.proofs.Restores.{Restoring}
use Rattle.slipseal.proofs.OddLengths.{Asked}
use Rattle.slipseal.proofs.slipseal_make.Kinds as make-k
use Rattle.slipseal.proofs.slipseal_check.Kinds as check-k
use Rattle.slipseal.proofs.slipseal_restore.Kinds as restore-k
use Rattle.slipseal.proofs.slipseal_start.Kinds as start-k
use Rattle.slipseal.proofs.slipseal_start_check.Kinds as start-check-k
use Rattle.slipseal.proofs.slipseal_piece.Kinds as piece-k
use Rattle.slipseal.proofs.slipseal_finish.Kinds as finish-k
use Rattle.slipseal.proofs.slipseal_finish_check.Kinds as finish-check-k
use Rattle.slipseal.proofs.slipseal_read.Kinds as read-k
use Rattle.slipseal.proofs.slipseal_read_gathered.Kinds as read-gathered-k
use Rattle.slipseal.proofs.slipseal_write.Kinds as write-k

-- ---- one call

module _ (κs : Lfts 3) where
  pub c-make-answers : (a : Dens κs make-k.ps) (x : Making κs a) → Among call_answers x.result.number
  unfolding told_make told_of
  c-make-answers a x =
      subst (λ (r : Answer × List ℕ). Among call_answers r.0.number) (sym x.ensures)
      (make-among (agreed_of a.0) a.1.0.now a.1.1.0.now a.1.1.1.0 a.1.1.1.1.0.now)

  pub c-check-answers : (a : Dens κs check-k.ps) (x : Checking κs a) → Among call_answers x.result.number
  unfolding told_of
  c-check-answers a x =
      subst (λ (r : Answer). Among call_answers r.number) (sym x.ensures)
      (check-among (agreed_of a.0) a.1.0.now a.1.1.0.now a.1.1.1.0 a.1.1.1.1.0.now)

  pub c-restore-answers : (a : Dens κs restore-k.ps) (x : Restoring κs a) → Among restore_answers x.result
  unfolding told_restored
  c-restore-answers a x =
      subst (λ (r : ℕ × List ℕ). Among restore_answers r.0) (sym x.ensures)
      (restore-among (agreed_of a.0) a.1.0.now a.1.1.0.now a.1.1.1.0 a.1.1.1.1.0 a.1.1.1.1.1.0.now)

-- ---- a session

module _ (κs : Lfts 1) where
  pub c-start-answers : (a : Dens κs start-k.ps) (x : Started κs a) → Among start_answers x.result.answer.number
  unfolding handed_out told_of
  c-start-answers a x = subst (λ (r : Step). Among start_answers r.answer.number) (sym x.ensures) (start-among (agreed_of a.0) a.1.0.now a.1.1.0)

-- what is handed back has the session's own number
back-among : (ks : List ℕ) (came : Session) (t : Stepped) → Among ks (number_of t.answer) → Among ks (handed_back came t).answer.number
unfolding told_of
back-among ks came t h = subst (λ (r : Answer). Among ks r.number) (sym (back-answer came t)) h

module _ (κs : Lfts 1) where
  pub c-piece-answers : (a : Dens κs piece-k.ps) (x : Pieced κs a) → Among piece_answers x.result.answer.number
  c-piece-answers a x = subst (λ (r : Step). Among piece_answers r.answer.number) (sym x.ensures) (back-among piece_answers a.0 _ (piece-among (inward a.0) a.1.0.now a.1.1.0))

  pub c-finish-answers : (a : Dens κs finish-k.ps) (x : Finished κs a) → Among finish_answers x.result.answer.number
  unfolding finished_back
  c-finish-answers a x = subst (λ (r : Step × List ℕ). Among finish_answers r.0.answer.number) (sym x.ensures) (back-among finish_answers a.0 _ (finish-among (inward a.0) a.1.0.now))

pub c-start-check-answers : (κs : Lfts 2) (a : Dens κs start-check-k.ps) (x : StartedCheck κs a) → Among start_check_answers x.result.answer.number
unfolding handed_out told_of
c-start-check-answers κs a x =
    subst (λ (r : Step). Among start_check_answers r.answer.number) (sym x.ensures) (start-check-among (agreed_of a.0) a.1.0.now a.1.1.0 a.1.1.1.0.now)

pub c-finish-check-answers : (κs : Lfts 0) (a : Dens κs finish-check-k.ps) (x : FinishedCheck κs a) → Among finish_check_answers x.result.answer.number
c-finish-check-answers κs a x = subst (λ (r : Step). Among finish_check_answers r.answer.number) (sym x.ensures) (back-among finish_check_answers a.0 _ (finish-check-among (inward a.0)))

-- ---- a slip

pub c-read-answers : (κs : Lfts 2) (a : Dens κs read-k.ps) (x : Read κs a) → Among slip_answers x.result.number
unfolding told_slip
c-read-answers κs a x = subst (λ (r : Slip). Among slip_answers r.number) (sym x.ensures) (slip-among (agreed_of a.0) a.1.0.now a.1.1.0.now)

pub c-read-gathered-answers : (κs : Lfts 1) (a : Dens κs read-gathered-k.ps) (x : Asked κs a) → Among slip_answers x.result.number
unfolding told_slip
c-read-gathered-answers κs a x = subst (λ (r : Slip). Among slip_answers r.number) (sym x.ensures) (slip-among (agreed_of a.0) a.1.0.now (held a.1.1.0))

pub c-write-answers : (κs : Lfts 3) (a : Dens κs write-k.ps) (x : Written κs a) → Among write_answers x.result.number
c-write-answers κs a x = let w = as_write κs a in told-among w.0 (keys_given κs w) (says_given κs w) (room_given κs w) _ _ (written_told κs a x)
