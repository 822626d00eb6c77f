-- The promises through C of runs of calls that make a tag: said of every answer that the contracts of the functions for C
-- allow. Single calls stand in EachCall.antt, runs that check a tag in CheckRuns.antt. A struct goes from call to call, and the
-- record that it stands for goes the way of the session's own record (`run-inward`). So a run of calls of any kind ends with the
-- definition's tag, calls and room for the joined bits of its accepted pieces (`c-joined`), and two such runs of full tags keep
-- demand 3 (`c-runs-differ`).
-- Assumes nothing.
use Rattle.std.proofs.Common.{◌≡◌, refl, sym, ap, ◌∙◌, List, [], ◌∷◌, ◌++◌, ℕ, take, drop}
use contract.Lifetimes.{Lfts}
use borrow.Fn.Kinds.{Dens}
use Rattle.bits.specs.Choice.{pick}
use Rattle.bits.specs.Str.{Bits}
use Rattle.mac.specs.Tag.{bytes_for}
use Rattle.mac.specs.Session.{joined}
use Rattle.mac.proofs.OneBlock.{Apart}
use Rattle.settings.specs.InUse.{unpacked, in_use}
use Rattle.settings.specs.Answers.{number_of, reported_calls}
use Rattle.settings.specs.declared.Agreement.{Agreement}
use Rattle.settings.proofs.Numbers.{Unrefused}
use Rattle.tag.proofs.Numbers.{tagged, listed, made_of}
use Rattle.tag.proofs.SameUse.{SameUse, tagged-same}
use Rattle.tag.proofs.Full.{n, size, full-differ}
use Rattle.session.specs.declared.Session as session
use Rattle.session.specs.Record.{cleared}
use Rattle.session.specs.Calls.{start_of, finish_of}
use Rattle.session.proofs.Joined.{Act, offers, ends, checks, answered, handed, gathered, ending, joined-bits}
use Rattle.slipseal.specs.declared.Session.{Session}
use Rattle.slipseal.specs.declared.Step.{Step}
use Rattle.slipseal.specs.Border.{agreed_of, inward, outward, finished_back, told_of, handed_out, handed_back}
use Rattle.slipseal.proofs.EachCall.{Started, Pieced, Finished, FinishedCheck, offered, out-number, out-in, begun, piece-in, finish-number, finish-in, finish-check-in}
use Rattle.slipseal.proofs.slipseal_start.Kinds as start-k
use Rattle.slipseal.proofs.slipseal_piece.Kinds as piece-k
use Rattle.slipseal.proofs.slipseal_finish.Kinds as finish-k
use Rattle.slipseal.proofs.slipseal_finish_check.Kinds as finish-check-k

-- ---- calls one after the other

pub data Run : Session → List Act → Session → Type 0 where
  end : {s : Session} → Run s [] s
  pieced : {κs : Lfts 1} {a : Dens κs piece-k.ps} {cs : List Act} {z : Session} (x : Pieced κs a) → Run x.result.session cs z → Run a.0 (offers (offered κs a) ∷ cs) z
  tried : {κs : Lfts 1} {a : Dens κs finish-k.ps} {cs : List Act} {z : Session} (x : Finished κs a) → Run x.result.session cs z → Run a.0 (ends a.1.0.now ∷ cs) z
  tried-check : {κs : Lfts 0} {a : Dens κs finish-check-k.ps} {cs : List Act} {z : Session} (x : FinishedCheck κs a) → Run x.result.session cs z → Run a.0 (checks ∷ cs) z

pub run-inward : {s z : Session} {cs : List Act} → Run s cs z → inward z ≡ handed (inward s) cs
unfolding handed answered
run-inward end = refl
run-inward (pieced {κs} {a} {cs} x r) = run-inward r ∙ ap (λ (t : session.Session). handed t cs) (piece-in κs a x)
run-inward (tried {κs} {a} {cs} x r) = run-inward r ∙ ap (λ (t : session.Session). handed t cs) (finish-in κs a x)
run-inward (tried-check {κs} {a} {cs} x r) = run-inward r ∙ ap (λ (t : session.Session). handed t cs) (finish-check-in κs a x)

-- a whole run: a start that was accepted, calls, a finish that made a tag
pub record Ran : Type 0 where
  pub start-at : Lfts 1
  pub given : Dens start-at start-k.ps
  pub first : Started start-at given
  pub accepted : first.result.answer.number ≡ 0
  pub acts : List Act
  pub finish-at : Lfts 1
  pub came : Dens finish-at finish-k.ps
  pub between : Run first.result.session acts came.0
  pub last : Finished finish-at came
  pub made : last.result.answer.number ≡ 0

module _ (r : Ran) where
  abbrev pub agreed : Agreement
  agreed = agreed_of r.given.0

  abbrev pub keyed : List ℕ
  keyed = r.given.1.0.now

  abbrev pub told : Bits
  told = joined (gathered (inward r.first.result.session) r.acts)

  abbrev pub left : List ℕ
  left = r.last.last.1.0

  -- number 0, yes, the calls of the definition's list; the struct closed and zero; the tag's bytes, and the rest of the room
  abbrev pub Ended : Step × List ℕ
  Ended = (
    record { answer = record { number = 0; yes = 1; calls = listed agreed (unpacked agreed keyed) told }; session = outward cleared },
    tagged agreed (in_use agreed keyed) told ++ drop (bytes_for agreed.m) r.came.1.0.now,
  )

  pub c-joined : (r.last.result, left) ≡ Ended
  unfolding finished_back handed_back handed_out told_of number_of reported_calls pick
  c-joined =
      let room = r.came.1.0.now in
      let d = r.given.1.1.0 in
      let first = begun r.start-at r.given in
      let began = out-in first r.first.result r.first.ensures in
      let at-end : inward r.came.0 ≡ handed (start_of agreed keyed d).session r.acts = run-inward r.between ∙ ap (λ (t : session.Session). handed t r.acts) began in
      let made_so : Unrefused (finish_of (handed (start_of agreed keyed d).session r.acts) room).0.answer =
      ap (λ (t : session.Session). number_of (finish_of t room).0.answer) (sym at-end) ∙ sym (finish-number r.finish-at r.came r.last) ∙ r.made in
      r.last.ensures
      ∙ ap (λ (t : session.Session). finished_back r.came.0 (finish_of t room)) at-end
      ∙ ap (finished_back r.came.0) (joined-bits agreed keyed d (sym (out-number first r.first.result r.first.ensures) ∙ r.accepted) r.acts room made_so)
      ∙ ap (λ (t : session.Session). finished_back r.came.0 (ending (made_of agreed keyed (joined (gathered t r.acts)) room))) (sym began)

-- ---- demand 3 over two runs

module _ (r t : Ran) where
  pub c-runs-differ : SameUse (agreed r) (keyed r) (agreed t) (keyed t) → (agreed r).m ≡ n → (j : ℕ) → Apart n j (told r) (told t) → ¬ (told r ≡ told t)
      → ¬ (take size (left r) ≡ take size (left t))
  c-runs-differ same full j h ne e =
      full-differ (agreed r) full (in_use (agreed r) (keyed r)) j (told r) (told t) h ne _ _
      (sym (ap (λ (w : Step × List ℕ). take size w.1) (c-joined r)) ∙ e
      ∙ ap (λ (w : Step × List ℕ). take size w.1) (c-joined t)
      ∙ ap (λ (w : List ℕ). take size (w ++ drop (bytes_for (agreed t).m) t.came.1.0.now)) (sym (tagged-same (agreed r) (agreed t) (keyed r) (keyed t) same (told t))))
