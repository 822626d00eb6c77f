-- A checking session and one call, both ways: a session that runs, with its joined bits as the message, is finished as `check` answers
-- for them and the same tag, refusal 9 included (`ends-as-one-check`; under padding 3 where the declared length is met, for else the
-- finish gets 12). So one that can be finished says what one accepted call says, on yes, no and the count (`checked-as-one-call`), and
-- yes exactly where the tag is the defined one (`yes-exactly`); 9 is refused by both or by neither (`nine-by-both-checks`). The other
-- way round, what one call accepts a session accepts under every cut: `accepting-check`.
-- Assumes nothing.
use Rattle.std.proofs.Common.{◌≡◌, refl, sym, ap, ◌∙◌, Bool, true, false, List, ℕ, eqb-true, eqb, length}
use Rattle.bits.specs.Choice.{pick, first_of}
use Rattle.bits.specs.Str.{Bits}
use Rattle.bits.proofs.Faults.{clear-one}
use Rattle.bits.proofs.Same.{same_row-true, same_row-eq}
use Rattle.block.specs.Block.{front}
use Rattle.settings.specs.InUse.{unpacked, in_use}
use Rattle.settings.specs.Answers.{number_of, Told, Yes, No}
use Rattle.settings.specs.declared.Agreement.{Agreement}
use Rattle.settings.proofs.Numbers.{Unrefused}
use Rattle.message.specs.Faults.{tag_length_wrong}
use Rattle.tag.specs.OneCall.{one_call_faults, checked_by, check_of}
use Rattle.tag.proofs.Numbers.{tagged, listed, verdict_of, check-faults, sound-checked, checked-of, yes-tested}
use Rattle.session.specs.declared.Purpose.TheVariants.{Checking}
use Rattle.session.specs.declared.Session.{Session}
use Rattle.session.specs.Calls.{Stepped, start_check_of, end_faults, finish_check_faults, finish_check_of}
use Rattle.session.specs.Record.{cleared, aimed, is_check, counts_closed}
use Rattle.session.proofs.Open.{ended}
use Rattle.session.proofs.Purposes.{aimed-closed, aimed-end}
use Rattle.session.proofs.Stood.{stood}
use Rattle.session.proofs.OneStep.{finish-check-faults, finish-check-sound, start-check-clear}
use Rattle.session.proofs.Joined.{Act, Running, Begun, to-check, record-after, message, checked, finish-check-runs, declared-met, check-stood, expected-tag, after-stood, joined-check}
use Rattle.session.proofs.AsOneCall.{Holds, last_two, end-last, one-call-last, nine-faults, declared-kept}

-- the faults of its finish, its purpose being to check
aimed-faults : (e : List ℕ) (s : Session) → first_of (finish_check_faults (aimed Checking e s)) ≡ first_of (end_faults s false false)
unfolding finish_check_faults is_check aimed
aimed-faults e s = ap first_of (aimed-end Checking e s false false)

-- ---- a session that runs after the bits x

module _ (A : Agreement) (s : List ℕ) (d : ℕ) (tag : List ℕ) (u : Unrefused (start_check_of A s d tag).answer) where
  -- an accepted start found the tag's length right
  abbrev ten : Bool
  ten = tag_length_wrong A.m (length tag)

  right : ten ≡ false
  right = clear-one (start-check-clear A s d tag u).1

  module _ (x : Bits) (runs : Running (stood A s d x)) where
    abbrev r : Session
    r = aimed Checking (front tag) (stood A s d x)

    both-checks : (A.padding ≡ 3 → d ≡ length x) → (bytes : List ℕ) (l : ℕ) → Holds bytes l x → (finish_check_of r).answer ≡ check_of A s bytes l tag
    unfolding finish_check_of check_of checked_by pick
    both-checks met bytes l h = go (eqb no 0) refl
      where
        no : ℕ
        no = first_of (finish_check_faults r)

        same : no ≡ first_of (one_call_faults A s (length bytes) l ten)
        same =
            aimed-faults (front tag) (stood A s d x) ∙ end-last A s d (start-check-clear A s d tag u).0 x runs met false ∙ ap (last_two A (length x)) (sym right)
            ∙ sym (one-call-last A s d (start-check-clear A s d tag u).0 x runs bytes l h ten)

        go : (b : Bool) → eqb no 0 ≡ b → (finish_check_of r).answer ≡ check_of A s bytes l tag
        go true e =
            let z = eqb-true no 0 e in
            ap (λ (t : Stepped). t.answer) (check-stood A s d x (front tag) tag (expected-tag A s d tag u) z)
            ∙ sym (sound-checked A s bytes l tag (sym same ∙ z) ∙ ap (λ (w : Bits). verdict_of A s w tag) h.bits)
        go false e = rw (e, sym same, e) refl

-- ---- the statements: of every start that was accepted and any calls after it

module _ (A : Agreement) (s : List ℕ) (d : ℕ) (tag : List ℕ) (u : Unrefused (start_check_of A s d tag).answer) (cs : List Act) where
  abbrev b : Begun
  b = to-check A s d tag

  abbrev x : Bits
  x = message b cs

  abbrev end : Stepped
  end = checked A s d tag cs

  -- the record that stands for the bits runs for either purpose
  stood-runs : Running (record-after b cs) → Running (stood A s d x)
  stood-runs runs = sym (aimed-closed Checking (front tag) (stood A s d x)) ∙ sym (ap (λ (t : Session). counts_closed t) (after-stood b u cs runs)) ∙ runs

  pub yes-exactly : Unrefused end.answer → ((k : ℕ) → end.answer ≡ Yes k → tag ≡ tagged A (in_use A s) x) × (tag ≡ tagged A (in_use A s) x → end.answer ≡ Yes (listed A (unpacked A s) x))
  unfolding pick
  yes-exactly f =
      let e = ap (λ (t : Stepped). t.answer) (joined-check A s d tag u cs f) in
      let calls = listed A (unpacked A s) x in (
        λ k says. same_row-eq tag _ (yes-tested true _ calls 0 k (sym e ∙ says)),
        λ same. e ∙ ap (λ (t : Bool). pick t (Yes calls) (No calls)) (same_row-true tag _ same),
      )

  module _ (bytes : List ℕ) (l : ℕ) (h : Holds bytes l x) where
    pub ends-as-one-check : Running (record-after b cs) → (A.padding ≡ 3 → d ≡ length x) → end.answer ≡ check_of A s bytes l tag
    ends-as-one-check runs met = ap (λ (t : Session). (finish_check_of t).answer) (after-stood b u cs runs) ∙ both-checks A s d tag u x (stood-runs runs) met bytes l h

    pub checked-as-one-call : Unrefused end.answer → Unrefused (check_of A s bytes l tag) × (end ≡ record { answer = check_of A s bytes l tag; session = cleared })
    unfolding finish_check_faults
    checked-as-one-call f =
        (accepted, joined-check A s d tag u cs f ∙ ap (λ (o : Told). record { answer = o; session = cleared }) (sym (checked-of A s bytes l tag accepted ∙ ap (λ (w : Bits). verdict_of A s w tag) h.bits)))
      where
        runs : Running (record-after b cs)
        runs = finish-check-runs (record-after b cs) f

        -- no 12: the declared length is met
        met : A.padding ≡ 3 → d ≡ length x
        met e =
            let sound = finish-check-sound (record-after b cs) f in
            let faults = sym (aimed-faults (front tag) (stood A s d x)) ∙ (rw (after-stood b u cs runs) at sound) in
            sym (declared-kept A.padding d e) ∙ declared-met A s d x (ended (stood A s d x) false false faults) e

        accepted : Unrefused (check_of A s bytes l tag)
        accepted = ap number_of (sym (ends-as-one-check runs met)) ∙ f

    pub nine-by-both-checks : Running (record-after b cs) → (number_of end.answer ≡ 9 → number_of (check_of A s bytes l tag) ≡ 9) × (number_of (check_of A s bytes l tag) ≡ 9 → number_of end.answer ≡ 9)
    nine-by-both-checks runs =
        let nine = nine-faults A s d (start-check-clear A s d tag u).0 x (stood-runs runs) bytes l h false in
        let ended = ap (λ (t : Session). number_of (finish_check_of t).answer) (after-stood b u cs runs) ∙ finish-check-faults (aimed Checking (front tag) (stood A s d x)) ∙ aimed-faults (front tag) (stood A s d x) in
        let told = check-faults A s bytes l tag ∙ ap (λ (t : Bool). first_of (one_call_faults A s (length bytes) l t)) (right A s d tag u) in
        (λ k. told ∙ nine.0 (sym ended ∙ k), λ k. ended ∙ nine.1 (sym told ∙ k))
