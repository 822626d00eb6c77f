-- A session and one call over the code: of every answer that the contracts of `start`, `piece`, both finishes and `make` allow. A
-- run that made a tag and a call of `make` with its joined bits, under the same agreement and keys and with a room of the same bytes,
-- have the same answer and leave the same room (`run-as-make`). Where a session that runs is tried, its finish gets 9 exactly where that call
-- does (`nine-as-make`).
-- Assumes nothing.
use Rattle.std.proofs.Common.{◌≡◌, sym, ap, ◌∙◌, subst, List, ℕ}
use contract.Lifetimes.{Lfts}
use borrow.Fn.Kinds.{Dens}
use Rattle.mac.specs.Session.{joined}
use Rattle.settings.specs.Answers as answers
use Rattle.settings.specs.Answers.{number_of, Told}
use Rattle.settings.proofs.Numbers.{Unrefused}
use Rattle.tag.specs.OneCall.{make_of}
use Rattle.tag.proofs.Numbers.{Making, MakeAt, room_left, answer_at}
use Rattle.tag.proofs.make.Kinds as make-k
use Rattle.session.specs.Record.{cleared}
use Rattle.session.specs.declared.Session.{Session}
use Rattle.session.specs.Calls.{Stepped, stepped, finish_of}
use Rattle.session.proofs.Told.{same-stepped}
use Rattle.session.proofs.OneStep.{of_end}
use Rattle.session.proofs.Joined.{Act, handed, gathered, Running, ending}
use Rattle.session.proofs.AsOneCall.{Holds, finished-as-one-call, nine-by-both}
use Rattle.session.proofs.Run.{Started, Finished, Run, run-handed, Ran, agreed, keyed, told, left}
use Rattle.session.proofs.start.Kinds as start-k
use Rattle.session.proofs.Session.finish.Kinds as finish-k

module _ (r : Ran) (bytes : List ℕ) (l : ℕ) (holds : Holds bytes l (told r))
    (κs : Lfts 3) (b : Dens κs make-k.ps) (y : Making κs b) (at : MakeAt κs b (agreed r) (keyed r) bytes l) (room : b.1.1.1.1.0.now ≡ r.handed-in.1.0.now) where
  run-told : (stepped r.last.result, left r) ≡ ending (answers.told y.result, room_left κs b y)
  run-told =
      let began = r.first.ensures in
      let at-end = run-handed r.between ∙ ap (λ (t : Stepped). handed t.session r.acts) began in
      let lent = r.handed-in.1.0.now in
      let ends_so = r.last.ensures ∙ ap (λ (t : Session). finish_of t lent) at-end in
      ends_so
      ∙ (finished-as-one-call (agreed r) (keyed r) r.given.1.1.0 (subst (λ (t : Stepped). Unrefused t.answer) began r.accepted) r.acts bytes l
      (subst (λ (t : Stepped). Holds bytes l (joined (gathered t.session r.acts))) began holds) lent (subst (λ (t : Stepped × List ℕ). Unrefused (of_end t)) ends_so r.made)).1
      ∙ ap ending (ap (make_of (agreed r) (keyed r) bytes l) (sym room) ∙ sym (answer_at κs b y at))

  pub run-as-make : (r.last.result ≡ record { answer = y.result; session = cleared }) × (left r ≡ room_left κs b y)
  run-as-make = (same-stepped r.last.result (record { answer = y.result; session = cleared }) (λ i. (run-told i).0), λ i. (run-told i).1)

-- a start that was accepted, calls, and a finish that is tried while the session runs
module _ (κs : Lfts 1) (a : Dens κs start-k.ps) (first : Started κs a) (accepted : Unrefused (stepped first.result).answer) (acts : List Act)
    (λs : Lfts 1) (e : Dens λs finish-k.ps) (between : Run first.result.session acts e.0) (runs : Running e.0) (last : Finished λs e)
    (bytes : List ℕ) (l : ℕ) (holds : Holds bytes l (joined (gathered first.result.session acts)))
    (μs : Lfts 3) (b : Dens μs make-k.ps) (y : Making μs b) (at : MakeAt μs b a.0 a.1.0.now bytes l) (room : b.1.1.1.1.0.now ≡ e.1.0.now) where
  pub nine-as-make : (number_of (stepped last.result).answer ≡ 9 → number_of (answers.told y.result) ≡ 9) × (number_of (answers.told y.result) ≡ 9 → number_of (stepped last.result).answer ≡ 9)
  nine-as-make =
      let began = first.ensures in
      let at-end = run-handed between ∙ ap (λ (t : Stepped). handed t.session acts) began in
      let lent = e.1.0.now in
      let ends_so = ap (λ (t : Stepped × List ℕ). number_of (of_end t)) (last.ensures ∙ ap (λ (t : Session). finish_of t lent) at-end) in
      let makes_so = ap (λ (t : Told × List ℕ). number_of t.0) (answer_at μs b y at ∙ ap (make_of a.0 a.1.0.now bytes l) room) in
      let both = nine-by-both a.0 a.1.0.now a.1.1.0 (subst (λ (t : Stepped). Unrefused t.answer) began accepted) acts bytes l
      (subst (λ (t : Stepped). Holds bytes l (joined (gathered t.session acts))) began holds) lent (subst Running at-end runs) in
      (λ h. makes_so ∙ both.0 (sym ends_so ∙ h), λ h. ends_so ∙ both.1 (sym makes_so ∙ h))
