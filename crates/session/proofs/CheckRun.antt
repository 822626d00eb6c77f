-- Checking sessions over the code: said of every answer that the contracts of `start_check`, `piece` and both finishes allow.
--
-- A run (`CheckRan`) is an accepted start of a check, calls of any kind, each given the record that the call before it handed back, and
-- a finish that says yes or no. It compares the tag that was given at the start with the definition's tag for the bits of its accepted
-- pieces joined, reports the definition's calls and closes, whatever calls were refused in between (`code-checked`): yes exactly where
-- the tag is the defined one (`yes-run-alone`, `yes-run-to-it`), and with what one call of `check` says to the same bits and tag
-- (`same-as-one-check`; where the session runs, 9 is refused by both or by neither: `nine-as-check`). An accepted start of a check
-- leaves the session open (`start-check-open`) with purpose and tag in the record (`start-carries`), where every piece leaves them
-- (`piece-carries`); a refused finish hands back the very record (`finish-check-back`), and so does a
-- finish of the other purpose, with 11 (`finish-other`, `finish-check-other`). Purpose and expected tag are read nowhere else
-- (`piece-free`, `finish-free`, `finish-check-free`).
-- Assumes nothing.
use Rattle.std.proofs.Common.{◌≡◌, sym, ap, ◌∙◌, subst, List, ℕ, take}
use contract.Lifetimes.{Lfts}
use borrow.Fn.Kinds.{Dens}
use Rattle.bits.specs.Once.{Allowed}
use Rattle.bits.specs.Str.{Bits}
use Rattle.block.specs.Block.{front}
use Rattle.mac.specs.Tag.{bytes_for}
use Rattle.mac.specs.Session.{joined}
use Rattle.settings.specs.InUse.{unpacked, in_use}
use Rattle.settings.specs.Answers as answers
use Rattle.settings.specs.Answers.{number_of, Told, Yes, Refused}
use Rattle.settings.specs.declared.Agreement.{Agreement}
use Rattle.settings.proofs.Told.{same-told}
use Rattle.settings.proofs.Numbers.{Unrefused}
use Rattle.tag.specs.OneCall.{check_of}
use Rattle.tag.proofs.Numbers.{tagged, listed, verdict_of, Checking, CheckAt}
use Rattle.tag.proofs.check.Kinds as check-k
use Rattle.session.specs.declared.Purpose.{Purpose}
use Rattle.session.specs.declared.Purpose.TheVariants as purpose
use Rattle.session.specs.declared.Session.{Session}
use Rattle.session.specs.Calls.{Stepped, stepped, start_check_of, piece_of, finish_of, finish_check_of}
use Rattle.session.specs.Record.{cleared, aimed}
use Rattle.session.proofs.Told.{same-stepped}
use Rattle.session.proofs.OneStep.{refused-check}
use Rattle.session.proofs.Joined.{Act, handed, gathered, Running, start-check-stood, joined-check}
use Rattle.session.proofs.StaysOpen.{start-check-opens}
use Rattle.session.proofs.AsOneCall.{Holds}
use Rattle.session.proofs.AsOneCheck.{yes-exactly, checked-as-one-call, nine-by-both-checks}
use Rattle.session.proofs.OtherPurpose.{other-finish, other-check, onward, piece-aimed, piece-keeps, outcome, finish-aimed, check-aimed}
use Rattle.session.proofs.Run.{Pieced, Finished, FinishedCheck, Run, run-handed}
use Rattle.session.proofs.start_check.Kinds as start-check-k
use Rattle.session.proofs.start_check.Reads as start-check
use Rattle.session.proofs.Session.piece.Kinds as piece-k
use Rattle.session.proofs.Session.finish.Kinds as finish-k
use Rattle.session.proofs.Session.finish_check.Kinds as finish-check-k

abbrev pub StartedCheck : (κs : Lfts 2) → Dens κs start-check-k.ps → Type 0
StartedCheck κs a = Allowed start-check-k.ps start-check-k.r start-check.Learnt κs a

-- ---- one call

module _ (κs : Lfts 2) (a : Dens κs start-check-k.ps) (x : StartedCheck κs a) where
  pub start-check-open : Unrefused (stepped x.result).answer → Running x.result.session
  start-check-open u =
      let e = x.ensures in
      subst (λ (t : Stepped). Running t.session) (sym e) (start-check-opens a.0 a.1.0.now a.1.1.0 a.1.1.1.0.now (subst (λ (t : Stepped). Unrefused t.answer) e u))

  -- the purpose, and the tag's bytes as they were given, then zeros
  pub start-carries : Unrefused (stepped x.result).answer → (x.result.session.purpose ≡ purpose.Checking) × (x.result.session.expected ≡ front a.1.1.1.0.now)
  unfolding aimed
  start-carries u =
      let e = x.ensures in
      let same = ap (λ (t : Stepped). t.session) e ∙ start-check-stood a.0 a.1.0.now a.1.1.0 a.1.1.1.0.now (subst (λ (t : Stepped). Unrefused t.answer) e u) in
      (ap (λ (s : Session). s.purpose) same, ap (λ (s : Session). s.expected) same)

module _ (κs : Lfts 1) (a : Dens κs piece-k.ps) (x : Pieced κs a) where
  pub piece-carries : (x.result.session.purpose ≡ a.0.purpose) × (x.result.session.expected ≡ a.0.expected)
  piece-carries =
      let kept = piece-keeps a.0 a.1.0.now a.1.1.0 in
      (ap (λ (t : Stepped). t.session.purpose) x.ensures ∙ kept.0, ap (λ (t : Stepped). t.session.expected) x.ensures ∙ kept.1)

module _ (κs : Lfts 0) (a : Dens κs finish-check-k.ps) (x : FinishedCheck κs a) where
  pub finish-check-back : ¬ (Unrefused (stepped x.result).answer) → x.result.session ≡ a.0
  finish-check-back u = ap (λ (t : Stepped). t.session) x.ensures ∙ refused-check a.0 (λ z. u (ap (λ (t : Stepped). number_of t.answer) x.ensures ∙ z))

  pub finish-check-other : a.0.purpose ≡ purpose.Making → stepped x.result ≡ record { answer = Refused 11; session = a.0 }
  finish-check-other e = x.ensures ∙ other-check a.0 e

module _ (κs : Lfts 1) (a : Dens κs finish-k.ps) (x : Finished κs a) where
  pub finish-other : a.0.purpose ≡ purpose.Checking → (stepped x.result ≡ record { answer = Refused 11; session = a.0 }) × (x.last.1.0 ≡ a.1.0.now)
  finish-other e =
      let same = x.ensures ∙ other-finish a.0 e a.1.0.now in
      (ap (λ (r : Stepped × List ℕ). r.0) same, ap (λ (r : Stepped × List ℕ). r.1) same)

-- ---- one call on a record, and on the same record with another purpose or another tag expected

module _ (p : Purpose) (e : List ℕ) (κs : Lfts 1) (a : Dens κs piece-k.ps) (x : Pieced κs a) (λs : Lfts 1) (b : Dens λs piece-k.ps) (y : Pieced λs b) where
  pub piece-free : b.0 ≡ aimed p e a.0 → b.1.0.now ≡ a.1.0.now → b.1.1.0 ≡ a.1.1.0 → y.result ≡ record { answer = x.result.answer; session = aimed p e x.result.session }
  piece-free same bytes bits =
      same-stepped y.result (record { answer = x.result.answer; session = aimed p e x.result.session })
      (y.ensures ∙ (λ i. piece_of (same i) (bytes i) (bits i)) ∙ piece-aimed p e a.0 a.1.0.now a.1.1.0 ∙ ap (onward p e) (sym x.ensures))

module _ (e : List ℕ) (κs : Lfts 1) (a : Dens κs finish-k.ps) (x : Finished κs a) (λs : Lfts 1) (b : Dens λs finish-k.ps) (y : Finished λs b) where
  pub finish-free : a.0.purpose ≡ purpose.Making → b.0 ≡ aimed purpose.Making e a.0 → b.1.0.now ≡ a.1.0.now → (y.result.answer ≡ x.result.answer) × (y.last.1.0 ≡ x.last.1.0)
  finish-free mine same room =
      let both = ap outcome (y.ensures ∙ (λ i. finish_of (same i) (room i))) ∙ finish-aimed e a.0 a.1.0.now mine ∙ ap outcome (sym x.ensures) in
      (same-told _ _ (ap (λ (r : Told × List ℕ). r.0) both), ap (λ (r : Told × List ℕ). r.1) both)

module _ (e : List ℕ) (κs : Lfts 0) (a : Dens κs finish-check-k.ps) (x : FinishedCheck κs a) (λs : Lfts 0) (b : Dens λs finish-check-k.ps) (y : FinishedCheck λs b) where
  pub finish-check-free : a.0.purpose ≡ purpose.Checking → b.0 ≡ aimed purpose.Checking e a.0
      → take (bytes_for a.0.agreement.m) e ≡ take (bytes_for a.0.agreement.m) a.0.expected → y.result.answer ≡ x.result.answer
  finish-check-free mine same bytes =
      same-told _ _ (ap (λ (t : Stepped). t.answer) (y.ensures ∙ ap finish_check_of same) ∙ check-aimed e a.0 mine bytes ∙ ap (λ (t : Stepped). t.answer) (sym x.ensures))

-- ---- a whole run: a start that was accepted, calls, a finish that says yes or no

pub record CheckRan : Type 0 where
  pub start-at : Lfts 2
  pub given : Dens start-at start-check-k.ps
  pub first : StartedCheck start-at given
  pub accepted : Unrefused (stepped first.result).answer
  pub acts : List Act
  pub finish-at : Lfts 0
  pub handed-in : Dens finish-at finish-check-k.ps
  pub between : Run first.result.session acts handed-in.0
  pub last : FinishedCheck finish-at handed-in
  pub judged : Unrefused (stepped last.result).answer

module _ (r : CheckRan) where
  abbrev pub agreed : Agreement
  agreed = r.given.0

  abbrev pub keyed : List ℕ
  keyed = r.given.1.0.now

  -- the tag that is expected
  abbrev pub expecting : List ℕ
  expecting = r.given.1.1.1.0.now

  -- the bits of its accepted pieces, joined
  abbrev pub told : Bits
  told = joined (gathered r.first.result.session r.acts)

  abbrev d : ℕ
  d = r.given.1.1.0

  -- the definition's start and finish
  begun : Unrefused (start_check_of agreed keyed d expecting).answer
  begun = subst (λ (t : Stepped). Unrefused t.answer) r.first.ensures r.accepted

  ends_so : stepped r.last.result ≡ finish_check_of (handed (start_check_of agreed keyed d expecting).session r.acts)
  ends_so = r.last.ensures ∙ ap finish_check_of (run-handed r.between ∙ ap (λ (t : Stepped). handed t.session r.acts) r.first.ensures)

  judged-so : Unrefused (finish_check_of (handed (start_check_of agreed keyed d expecting).session r.acts)).answer
  judged-so = subst (λ (t : Stepped). Unrefused t.answer) ends_so r.judged

  pub code-checked : stepped r.last.result ≡ record { answer = verdict_of agreed keyed told expecting; session = cleared }
  code-checked =
      ends_so ∙ joined-check agreed keyed d expecting begun r.acts judged-so
      ∙ ap (λ (t : Stepped). record { answer = verdict_of agreed keyed (joined (gathered t.session r.acts)) expecting; session = cleared }) (sym r.first.ensures)

  -- yes to the defined tag alone, and always to it
  pub yes-run-alone : (k : ℕ) → (stepped r.last.result).answer ≡ Yes k → expecting ≡ tagged agreed (in_use agreed keyed) told
  yes-run-alone k e =
      (yes-exactly agreed keyed d expecting begun r.acts judged-so).0 k (sym (ap (λ (t : Stepped). t.answer) ends_so) ∙ e)
      ∙ ap (λ (t : Stepped). tagged agreed (in_use agreed keyed) (joined (gathered t.session r.acts))) (sym r.first.ensures)

  pub yes-run-to-it : expecting ≡ tagged agreed (in_use agreed keyed) told → (stepped r.last.result).answer ≡ Yes (listed agreed (unpacked agreed keyed) told)
  yes-run-to-it e =
      let began = r.first.ensures in
      ap (λ (t : Stepped). t.answer) ends_so
      ∙ (yes-exactly agreed keyed d expecting begun r.acts judged-so).1 (e ∙ ap (λ (t : Stepped). tagged agreed (in_use agreed keyed) (joined (gathered t.session r.acts))) began)
      ∙ ap (λ (t : Stepped). Yes (listed agreed (unpacked agreed keyed) (joined (gathered t.session r.acts)))) (sym began)

  -- and one call of `check` under the same agreement and keys, with the joined bits and the same tag
  module _ (bytes : List ℕ) (l : ℕ) (holds : Holds bytes l told) (κs : Lfts 3) (b : Dens κs check-k.ps) (y : Checking κs b) (at : CheckAt κs b agreed keyed bytes l expecting) where
    pub same-as-one-check : r.last.result ≡ record { answer = y.result; session = cleared }
    same-as-one-check =
        same-stepped r.last.result (record { answer = y.result; session = cleared })
        (ends_so
        ∙ (checked-as-one-call agreed keyed d expecting begun r.acts bytes l (subst (λ (t : Stepped). Holds bytes l (joined (gathered t.session r.acts))) r.first.ensures holds) judged-so).1
        ∙ ap (λ (o : Told). record { answer = o; session = cleared }) (sym (y.ensures ∙ (λ i. check_of (at.agreed i) (at.keyed i) (at.lent i) (at.counted i) (at.offered i)))))

-- an accepted start of a check, calls, and a finish that is tried while the session runs
module _ (κs : Lfts 2) (a : Dens κs start-check-k.ps) (first : StartedCheck κs a) (accepted : Unrefused (stepped first.result).answer) (acts : List Act)
    (λs : Lfts 0) (e : Dens λs finish-check-k.ps) (between : Run first.result.session acts e.0) (runs : Running e.0) (last : FinishedCheck λs e)
    (bytes : List ℕ) (l : ℕ) (holds : Holds bytes l (joined (gathered first.result.session acts)))
    (μs : Lfts 3) (b : Dens μs check-k.ps) (y : Checking μs b) (at : CheckAt μs b a.0 a.1.0.now bytes l a.1.1.1.0.now) where
  pub nine-as-check : (number_of (stepped last.result).answer ≡ 9 → number_of (answers.told y.result) ≡ 9) × (number_of (answers.told y.result) ≡ 9 → number_of (stepped last.result).answer ≡ 9)
  nine-as-check =
      let began = first.ensures in
      let at-end = run-handed between ∙ ap (λ (t : Stepped). handed t.session acts) began in
      let ends-here = ap (λ (t : Stepped). number_of t.answer) (last.ensures ∙ ap finish_check_of at-end) in
      let checks-so = ap number_of (y.ensures ∙ (λ i. check_of (at.agreed i) (at.keyed i) (at.lent i) (at.counted i) (at.offered i))) in
      let both = nine-by-both-checks a.0 a.1.0.now a.1.1.0 a.1.1.1.0.now (subst (λ (t : Stepped). Unrefused t.answer) began accepted) acts bytes l
      (subst (λ (t : Stepped). Holds bytes l (joined (gathered t.session acts))) began holds) (subst Running at-end runs) in
      (λ h. checks-so ∙ both.0 (sym ends-here ∙ h), λ h. ends-here ∙ both.1 (sym checks-so ∙ h))
