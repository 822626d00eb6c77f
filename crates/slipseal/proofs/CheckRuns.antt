-- The promises of a check in pieces through C: said of every answer that the contracts of the functions for C allow. A run of
-- an accepted start of a check, calls of any kind and a finish that is not refused ends with number 0, the definition's calls, yes
-- 1 exactly where the tag given at the start is the definition's for the joined bits, and the struct closed and zero (`c-checked`,
-- `c-yes-exactly`); `slipseal_check` in one call says the same (`c-same-as-one-check`). An accepted start leaves the session open
-- (`c-start-check-open`). A finish of the other purpose gets 11 and the very struct (`c-finish-other`, `c-check-other`), and so
-- does any call on a struct whose phase, purpose or master is none that a session has (`c-odd-piece`, `c-odd-finish`,
-- `c-odd-check`). Expected bytes past those of the agreed bits have no influence (`c-check-free`).
-- Assumes nothing.
use Rattle.std.proofs.Common.{◌≡◌, refl, sym, ap, ◌∙◌, subst, Bool, true, false, List, ℕ, arith, take}
use contract.Lifetimes.{Lfts}
use borrow.Fn.Kinds.{Dens}
use Rattle.bits.specs.Choice.{pick}
use Rattle.bits.specs.Once.{Allowed}
use Rattle.bits.specs.Str.{Bits, same_row}
use Rattle.bits.proofs.Same.{same_row-true, same_row-eq}
use Rattle.mac.specs.Tag.{bytes_for}
use Rattle.mac.specs.Session.{joined}
use Rattle.settings.specs.InUse.{unpacked, in_use}
use Rattle.settings.specs.Answers.{Yes, No, number_of, reported_calls}
use Rattle.settings.specs.declared.Agreement.{Agreement}
use Rattle.settings.proofs.Numbers.{Unrefused}
use Rattle.tag.specs.OneCall.{check_of}
use Rattle.tag.proofs.Numbers.{tagged, listed, verdict_of}
use Rattle.session.specs.declared.Purpose.TheVariants as purpose
use Rattle.session.specs.declared.Session as session
use Rattle.session.specs.Record.{cleared, aimed}
use Rattle.session.specs.Calls.{Stepped, start_check_of, finish_check_of}
use Rattle.session.proofs.Joined.{Act, handed, gathered, Running, joined-check}
use Rattle.session.proofs.StaysOpen.{start-check-opens}
use Rattle.session.proofs.AsOneCall.{Holds}
use Rattle.session.proofs.AsOneCheck.{checked-as-one-call}
use Rattle.session.proofs.OtherPurpose.{other-finish, other-check, check-aimed}
use Rattle.slipseal.specs.declared.Answer.{Answer}
use Rattle.slipseal.specs.declared.Session.{Session}
use Rattle.slipseal.specs.declared.Step.{Step}
use Rattle.slipseal.specs.Border.{agreed_of, told_of, purpose_from, inward, outward, handed_out, handed_back, finished_back}
use Rattle.slipseal.proofs.Crossing.{refused11, Odd, odd-piece, odd-finish, odd-check}
use Rattle.slipseal.proofs.EachCall.{out-number, out-in, back-answer, back-out, Pieced, Finished, FinishedCheck, judging, finish-check-number}
use Rattle.slipseal.proofs.Runs.{Run, run-inward}
use Rattle.slipseal.proofs.slipseal_check.Kinds as check-k
use Rattle.slipseal.proofs.slipseal_check.Reads as check
use Rattle.slipseal.proofs.slipseal_start_check.Kinds as start-check-k
use Rattle.slipseal.proofs.slipseal_start_check.Reads as start-check
use Rattle.slipseal.proofs.slipseal_piece.Kinds as piece-k
use Rattle.slipseal.proofs.slipseal_finish.Kinds as finish-k
use Rattle.slipseal.proofs.slipseal_finish_check.Kinds as finish-check-k

abbrev pub StartedCheck : (κs : Lfts 2) → Dens κs start-check-k.ps → Type 0
StartedCheck κs a = Allowed start-check-k.ps start-check-k.r start-check.Learnt κs a

abbrev pub Checking : (κs : Lfts 3) → Dens κs check-k.ps → Type 0
Checking κs a = Allowed check-k.ps check-k.r check.Learnt κs a

-- ---- one call

-- the definition's start
abbrev begun : (κs : Lfts 2) → Dens κs start-check-k.ps → Stepped
begun κs a = start_check_of (agreed_of a.0) a.1.0.now a.1.1.0 a.1.1.1.0.now

module _ (κs : Lfts 2) (a : Dens κs start-check-k.ps) (x : StartedCheck κs a) where
  pub c-start-check-open : x.result.answer.number ≡ 0 → Running (inward x.result.session)
  c-start-check-open u =
      let e = out-in (begun κs a) x.result x.ensures in
      rw e (start-check-opens (agreed_of a.0) a.1.0.now a.1.1.0 a.1.1.1.0.now (sym (out-number (begun κs a) x.result x.ensures) ∙ u))

module _ (κs : Lfts 1) (a : Dens κs piece-k.ps) (x : Pieced κs a) where
  pub c-odd-piece : Odd a.0 → x.result ≡ refused11 a.0
  c-odd-piece h = x.ensures ∙ odd-piece a.0 h a.1.0.now a.1.1.0

module _ (κs : Lfts 1) (a : Dens κs finish-k.ps) (x : Finished κs a) where
  both : ◌≡◌ {A = Step × List ℕ} (x.result, x.last.1.0) (refused11 a.0, a.1.0.now) → (x.result ≡ refused11 a.0) × (x.last.1.0 ≡ a.1.0.now)
  both e = (ap (λ (r : Step × List ℕ). r.0) e, ap (λ (r : Step × List ℕ). r.1) e)

  pub c-odd-finish : Odd a.0 → (x.result ≡ refused11 a.0) × (x.last.1.0 ≡ a.1.0.now)
  c-odd-finish h = both (x.ensures ∙ odd-finish a.0 h a.1.0.now)

  pub c-finish-other : a.0.purpose ≡ 1 → (x.result ≡ refused11 a.0) × (x.last.1.0 ≡ a.1.0.now)
  unfolding inward finished_back handed_back told_of pick number_of reported_calls
  c-finish-other e = both (x.ensures ∙ ap (finished_back a.0) (other-finish (inward a.0) checks-it a.1.0.now))
    where
      checks-it : (inward a.0).purpose ≡ purpose.Checking
      checks-it = ap purpose_from e

module _ (κs : Lfts 0) (a : Dens κs finish-check-k.ps) (x : FinishedCheck κs a) where
  pub c-odd-check : Odd a.0 → x.result ≡ refused11 a.0
  c-odd-check h = x.ensures ∙ odd-check a.0 h

  pub c-check-other : a.0.purpose ≡ 0 → x.result ≡ refused11 a.0
  unfolding inward handed_back told_of pick number_of reported_calls
  c-check-other e = x.ensures ∙ ap (handed_back a.0) (other-check (inward a.0) makes-it)
    where
      makes-it : (inward a.0).purpose ≡ purpose.Making
      makes-it = ap purpose_from e

-- the struct with another tag expected
abbrev pub expecting_other : List ℕ → Session → Session
expecting_other e r = record {
  phase = r.phase;
  part = r.part;
  purpose = r.purpose;
  agreement = r.agreement;
  declared = r.declared;
  total = r.total;
  keys = r.keys;
  chain = r.chain;
  held = r.held;
  expected = e;
}

module _ (e : List ℕ) (κs : Lfts 0) (a : Dens κs finish-check-k.ps) (x : FinishedCheck κs a) (λs : Lfts 0) (b : Dens λs finish-check-k.ps) (y : FinishedCheck λs b) where
  pub c-check-free : a.0.purpose ≡ 1 → b.0 ≡ expecting_other e a.0 → take (bytes_for a.0.agreement.m) e ≡ take (bytes_for a.0.agreement.m) a.0.expected
      → y.result.answer ≡ x.result.answer
  unfolding agreed_of inward aimed pick
  c-check-free mine same bytes =
      ap (λ (r : Step). r.answer) y.ensures ∙ back-answer b.0 (finish_check_of (inward b.0))
      ∙ ap (λ (r : Session). told_of (finish_check_of (inward r)).answer) same
      ∙ ap (λ (q : ℕ). told_of (finish_check_of (aimed (purpose_from q) e (inward a.0))).answer) mine
      ∙ ap told_of (check-aimed e (inward a.0) (ap purpose_from mine) bytes)
      ∙ sym (ap (λ (r : Step). r.answer) x.ensures ∙ back-answer a.0 (finish_check_of (inward a.0)))

-- ---- a whole run: a start that was accepted, calls, a finish that says yes or no

-- the answer to a verdict
told-verdict : (b : Bool) (calls : ℕ) → told_of (pick b (Yes calls) (No calls)) ≡ record { number = 0; yes = pick b 1 0; calls = calls }
unfolding told_of number_of reported_calls pick
told-verdict true calls = refl
told-verdict false calls = refl

pub record CheckRan : Type 0 where
  pub start-at : Lfts 2
  pub given : Dens start-at start-check-k.ps
  pub first : StartedCheck start-at given
  pub accepted : first.result.answer.number ≡ 0
  pub acts : List Act
  pub finish-at : Lfts 0
  pub came : Dens finish-at finish-check-k.ps
  pub between : Run first.result.session acts came.0
  pub last : FinishedCheck finish-at came
  pub judged : last.result.answer.number ≡ 0

module _ (r : CheckRan) where
  abbrev pub agreed : Agreement
  agreed = agreed_of r.given.0

  abbrev pub keyed : List ℕ
  keyed = r.given.1.0.now

  -- the tag that is expected
  abbrev pub expecting : List ℕ
  expecting = r.given.1.1.1.0.now

  abbrev pub told : Bits
  told = joined (gathered (inward r.first.result.session) r.acts)

  abbrev d : ℕ
  d = r.given.1.1.0

  -- the definition's start and finish
  abbrev ending : Stepped
  ending = finish_check_of (handed (start_check_of agreed keyed d expecting).session r.acts)

  began : inward r.first.result.session ≡ (start_check_of agreed keyed d expecting).session
  began = out-in (begun r.start-at r.given) r.first.result r.first.ensures

  begun-so : Unrefused (start_check_of agreed keyed d expecting).answer
  begun-so = sym (out-number (begun r.start-at r.given) r.first.result r.first.ensures) ∙ r.accepted

  at-end : judging r.finish-at r.came ≡ ending
  at-end = ap finish_check_of (run-inward r.between ∙ ap (λ (t : session.Session). handed t r.acts) began)

  judged-so : Unrefused ending.answer
  judged-so = ap (λ (t : Stepped). number_of t.answer) (sym at-end) ∙ sym (finish-check-number r.finish-at r.came r.last) ∙ r.judged

  ends_so : r.last.result ≡ handed_out ending
  ends_so = r.last.ensures ∙ ap (handed_back r.came.0) at-end ∙ back-out r.came.0 ending judged-so

  pub c-checked : r.last.result ≡ record { answer = record { number = 0; yes = pick (same_row expecting (tagged agreed (in_use agreed keyed) told)) 1 0; calls = listed agreed (unpacked agreed keyed) told }; session = outward cleared }
  unfolding handed_out
  c-checked =
      ends_so ∙ ap handed_out (joined-check agreed keyed d expecting begun-so r.acts judged-so)
      ∙ ap (λ (t : session.Session). record { answer = told_of (verdict_of agreed keyed (joined (gathered t r.acts)) expecting); session = outward cleared }) (sym began)
      ∙ ap (λ (o : Answer). record { answer = o; session = outward cleared }) (told-verdict (same_row expecting (tagged agreed (in_use agreed keyed) told)) (listed agreed (unpacked agreed keyed) told))

  pub c-yes-exactly : (r.last.result.answer.yes ≡ 1 → expecting ≡ tagged agreed (in_use agreed keyed) told) × (expecting ≡ tagged agreed (in_use agreed keyed) told → r.last.result.answer.yes ≡ 1)
  unfolding pick
  c-yes-exactly = (λ e. same_row-eq expecting _ (tested (same_row expecting (tagged agreed (in_use agreed keyed) told)) (sym says ∙ e)), λ e. says ∙ ap (λ (b : Bool). pick b 1 0) (same_row-true expecting _ e))
    where
      says : r.last.result.answer.yes ≡ pick (same_row expecting (tagged agreed (in_use agreed keyed) told)) 1 0
      says = ap (λ (t : Step). t.answer.yes) c-checked

      tested : (b : Bool) → ◌≡◌ {A = ℕ} (pick b 1 0) 1 → b ≡ true
      tested true e = refl
      tested false e = absurd (omega arith)

  -- and one call of `slipseal_check` under the same agreement and keys, with the joined bits and the same tag
  module _ (bytes : List ℕ) (l : ℕ) (holds : Holds bytes l told) (κs : Lfts 3) (b : Dens κs check-k.ps) (y : Checking κs b)
      (same-agreed : agreed_of b.0 ≡ agreed) (same_keys : b.1.0.now ≡ keyed) (same_bytes : b.1.1.0.now ≡ bytes) (same_bits : b.1.1.1.0 ≡ l) (same_tag : b.1.1.1.1.0.now ≡ expecting) where
    pub c-same-as-one-check : r.last.result ≡ record { answer = y.result; session = outward cleared }
    unfolding handed_out
    c-same-as-one-check =
        ends_so
        ∙ ap handed_out (checked-as-one-call agreed keyed d expecting begun-so r.acts bytes l (subst (λ (t : session.Session). Holds bytes l (joined (gathered t r.acts))) began holds) judged-so).1
        ∙ ap (λ (o : Answer). record { answer = o; session = outward cleared }) (sym (y.ensures ∙ (λ i. told_of (check_of (same-agreed i) (same_keys i) (same_bytes i) (same_bits i) (same_tag i)))))
