-- The promises through C of single calls, of `slipseal_make` and of those of a session: said of every answer that the contracts of
-- the functions for C allow. What a call hands out or back stands for the session's own record (`out-in`, `handed-in`). Two
-- calls of `slipseal_make` keep demand 3 (`c-make-differs`); a refused call hands back the very struct and leaves the room
-- (`c-piece-back`, `c-finish-back`, `c-finish-check-back`, `c-make-untouched`); an accepted start or piece leaves the session open
-- (`c-start-open`, `c-piece-open`). Runs of calls stand in Runs.antt, the start of a check and runs that check a tag in
-- CheckRuns.antt.
-- Assumes nothing.
use Rattle.std.proofs.Common.{◌≡◌, refl, sym, ap, ◌∙◌, Bool, true, false, List, ◌++◌, ℕ, eqb, length, take, drop, rules, ne_eqb}
use contract.Lifetimes.{Lfts}
use borrow.Author.Tests.{eqb-false}
use borrow.Fn.Kinds.{Dens, GoodsP}
use Rattle.bits.specs.Choice.{pick}
use Rattle.bits.proofs.Choice.{either_way}
use Rattle.bits.specs.Once.{Allowed}
use Rattle.bits.specs.Str.{Bits}
use Rattle.mac.specs.Tag.{bits_of, bytes_for}
use Rattle.mac.proofs.OneBlock.{Apart}
use Rattle.settings.specs.InUse.{in_use}
use Rattle.settings.specs.Answers.{Told, number_of}
use Rattle.settings.proofs.Numbers.{Unrefused}
use Rattle.tag.specs.OneCall.{make_of}
use Rattle.tag.proofs.Numbers.{tagged, made-of, refused-of}
use Rattle.tag.proofs.SameUse.{SameUse, tagged-same}
use Rattle.tag.proofs.Full.{n, size, full-differ}
use Rattle.session.specs.Calls.{Stepped, start_of, piece_of, finish_of, finish_check_of}
use Rattle.session.proofs.OneStep.{Offered, refused-piece, refused-finish, refused-check}
use Rattle.session.proofs.Joined.{Running}
use Rattle.session.proofs.StaysOpen.{start-opens, piece-opens}
use Rattle.slipseal.specs.declared.Answer.{Answer}
use Rattle.slipseal.specs.declared.Session.{Session}
use Rattle.slipseal.specs.declared.Step.{Step}
use Rattle.slipseal.specs.Border.{agreed_of, told_of, inward, handed_out, handed_back, told_make, finished_back}
use Rattle.slipseal.proofs.Crossing.{out-and-in}
use Rattle.slipseal.proofs.slipseal_make.Kinds as make-k
use Rattle.slipseal.proofs.slipseal_make.Reads as make
use Rattle.slipseal.proofs.slipseal_start.Kinds as start-k
use Rattle.slipseal.proofs.slipseal_start.Reads as start
use Rattle.slipseal.proofs.slipseal_piece.Kinds as piece-k
use Rattle.slipseal.proofs.slipseal_piece.Reads as piece
use Rattle.slipseal.proofs.slipseal_finish.Kinds as finish-k
use Rattle.slipseal.proofs.slipseal_finish.Reads as finish
use Rattle.slipseal.proofs.slipseal_finish_check.Kinds as finish-check-k
use Rattle.slipseal.proofs.slipseal_finish_check.Reads as finish-check

abbrev pub Making : (κs : Lfts 3) → Dens κs make-k.ps → Type 0
Making κs a = Allowed make-k.ps make-k.r make.Learnt κs a

abbrev pub Started : (κs : Lfts 1) → Dens κs start-k.ps → Type 0
Started κs a = Allowed start-k.ps start-k.r start.Learnt κs a

abbrev pub Pieced : (κs : Lfts 1) → Dens κs piece-k.ps → Type 0
Pieced κs a = Allowed piece-k.ps piece-k.r piece.Learnt κs a

abbrev pub Finished : (κs : Lfts 1) → Dens κs finish-k.ps → Type 0
Finished κs a = Allowed finish-k.ps finish-k.r finish.Learnt κs a

abbrev pub FinishedCheck : (κs : Lfts 0) → Dens κs finish-check-k.ps → Type 0
FinishedCheck κs a = Allowed finish-check-k.ps finish-check-k.r finish-check.Learnt κs a

abbrev pub offered : (κs : Lfts 1) → Dens κs piece-k.ps → Offered
offered κs a = record { bytes = a.1.0.now; bits = a.1.1.0 }

-- ---- what is handed out, and back

-- the answer's number, and the record that the struct stands for
module _ (t : Stepped) (r : Step) (e : r ≡ handed_out t) where
  pub out-number : r.answer.number ≡ number_of t.answer
  unfolding handed_out told_of
  out-number = ap (λ (r : Step). r.answer.number) e

  pub out-in : inward r.session ≡ t.session
  unfolding handed_out
  out-in = ap (λ (r : Step). inward r.session) e ∙ out-and-in t.session

module _ (came : Session) (t : Stepped) where
  -- the answer, refused or not
  pub back-answer : (handed_back came t).answer ≡ told_of t.answer
  unfolding handed_back handed_out
  back-answer = either_way (λ (r : Step). r.answer) (eqb (number_of t.answer) 0) refl refl

  back-number : (handed_back came t).answer.number ≡ number_of t.answer
  unfolding told_of
  back-number = ap (λ (r : Answer). r.number) back-answer

  -- what goes back where nothing is refused
  pub back-out : Unrefused t.answer → handed_back came t ≡ handed_out t
  unfolding handed_back pick
  back-out u = rw u refl

  -- what a refusal hands back
  back-came : ¬ (number_of t.answer ≡ 0) → (handed_back came t).session ≡ came
  unfolding handed_back pick
  back-came u = rw (ne_eqb (number_of t.answer) 0 u) refl

  -- the record that it stands for is the session's own
  handed-in : (¬ (number_of t.answer ≡ 0) → t.session ≡ inward came) → inward (handed_back came t).session ≡ t.session
  unfolding handed_back handed_out pick
  handed-in back = go (eqb (number_of t.answer) 0) refl
    where
      go : (b : Bool) → eqb (number_of t.answer) 0 ≡ b → inward (pick b (handed_out t) (record { answer = told_of t.answer; session = came })).session ≡ t.session
      go true e = out-and-in t.session
      go false e = sym (back (eqb-false _ 0 e))

-- ---- one call

-- what was given, and what the definition answers
module _ (κs : Lfts 3) (a : Dens κs make-k.ps) where
  abbrev one : Told × List ℕ
  one = make_of (agreed_of a.0) a.1.0.now a.1.1.0.now a.1.1.1.0 a.1.1.1.1.0.now

  abbrev pub bits_given : Bits
  bits_given = bits_of a.1.1.0.now a.1.1.1.0

module _ (κs : Lfts 3) (a : Dens κs make-k.ps) (x : Making κs a) where
  -- the room at the end
  abbrev pub room_left : List ℕ
  room_left = x.last.1.1.1.1.0

  make-answer : x.result.number ≡ number_of (one κs a).0
  unfolding told_make told_of
  make-answer = ap (λ (r : Answer × List ℕ). r.0.number) x.ensures

  make-left : room_left ≡ (one κs a).1
  unfolding told_make
  make-left = ap (λ (r : Answer × List ℕ). r.1) x.ensures

  pub c-make-untouched : ¬ (x.result.number ≡ 0) → room_left ≡ a.1.1.1.1.0.now
  c-make-untouched u = make-left ∙ ap (λ (r : Told × List ℕ). r.1) (refused-of (agreed_of a.0) a.1.0.now a.1.1.0.now a.1.1.1.0 a.1.1.1.1.0.now (λ z. u (make-answer ∙ z)))

  make-made : x.result.number ≡ 0 → room_left ≡ tagged (agreed_of a.0) (in_use (agreed_of a.0) a.1.0.now) (bits_given κs a) ++ drop (bytes_for (agreed_of a.0).m) a.1.1.1.1.0.now
  make-made u = make-left ∙ ap (λ (r : Told × List ℕ). r.1) (made-of (agreed_of a.0) a.1.0.now a.1.1.0.now a.1.1.1.0 a.1.1.1.1.0.now (sym make-answer ∙ u))

module _ (κs : Lfts 3) (a : Dens κs make-k.ps) (x : Making κs a) (λs : Lfts 3) (b : Dens λs make-k.ps) (y : Making λs b) where
  pub c-make-differs : SameUse (agreed_of a.0) a.1.0.now (agreed_of b.0) b.1.0.now → a.0.m ≡ n → x.result.number ≡ 0 → y.result.number ≡ 0
      → (j : ℕ) → Apart n j (bits_given κs a) (bits_given λs b) → ¬ (bits_given κs a ≡ bits_given λs b) → ¬ (take size (room_left κs a x) ≡ take size (room_left λs b y))
  unfolding agreed_of
  c-make-differs same full ux uy j h ne e =
      full-differ (agreed_of a.0) full (in_use (agreed_of a.0) a.1.0.now) j _ _ h ne _ _
      (ap (take size) (sym (make-made κs a x ux)) ∙ e
      ∙ ap (take size) (make-made λs b y uy ∙ ap (λ (w : List ℕ). w ++ drop (bytes_for b.0.m) b.1.1.1.1.0.now) (sym (tagged-same (agreed_of a.0) (agreed_of b.0) a.1.0.now b.1.0.now same (bits_given λs b)))))

-- ---- a session's calls

-- the definition's start, piece and finishes
abbrev pub begun : (κs : Lfts 1) → Dens κs start-k.ps → Stepped
begun κs a = start_of (agreed_of a.0) a.1.0.now a.1.1.0

abbrev fed : (κs : Lfts 1) → Dens κs piece-k.ps → Stepped
fed κs a = piece_of (inward a.0) a.1.0.now a.1.1.0

abbrev closing : (κs : Lfts 1) → Dens κs finish-k.ps → Stepped × List ℕ
closing κs a = finish_of (inward a.0) a.1.0.now

abbrev pub judging : (κs : Lfts 0) → Dens κs finish-check-k.ps → Stepped
judging κs a = finish_check_of (inward a.0)

module _ (κs : Lfts 1) (a : Dens κs start-k.ps) (x : Started κs a) where
  pub c-start-open : x.result.answer.number ≡ 0 → Running (inward x.result.session)
  c-start-open u =
      let e = out-in (begun κs a) x.result x.ensures in
      rw e (start-opens (agreed_of a.0) a.1.0.now a.1.1.0 (sym (out-number (begun κs a) x.result x.ensures) ∙ u))

module _ (κs : Lfts 1) (a : Dens κs piece-k.ps) (x : Pieced κs a) where
  piece-number : x.result.answer.number ≡ number_of (fed κs a).answer
  piece-number = ap (λ (r : Step). r.answer.number) x.ensures ∙ back-number a.0 (fed κs a)

  pub c-piece-back : ¬ (x.result.answer.number ≡ 0) → x.result.session ≡ a.0
  c-piece-back u = ap (λ (r : Step). r.session) x.ensures ∙ back-came a.0 (fed κs a) (λ z. u (piece-number ∙ z))

  pub piece-in : inward x.result.session ≡ (fed κs a).session
  piece-in = ap (λ (r : Step). inward r.session) x.ensures ∙ handed-in a.0 (fed κs a) (λ u. refused-piece (inward a.0) (offered κs a) u)

  pub c-piece-open : GoodsP κs piece-k.ps a → x.result.answer.number ≡ 0 → Running (inward x.result.session)
  unfolding inward
  c-piece-open good u =
      let wide : (length a.0.chain ≡ 16) × (length a.0.held ≡ 16) = search rules in
      let e = piece-in in
      rw e (piece-opens (inward a.0) wide.0 wide.1 (offered κs a) (sym piece-number ∙ u))

module _ (κs : Lfts 1) (a : Dens κs finish-k.ps) (x : Finished κs a) where
  finish-is : (x.result ≡ handed_back a.0 (closing κs a).0) × (x.last.1.0 ≡ (closing κs a).1)
  unfolding finished_back
  finish-is = (ap (λ (r : Step × List ℕ). r.0) x.ensures, ap (λ (r : Step × List ℕ). r.1) x.ensures)

  pub finish-number : x.result.answer.number ≡ number_of (closing κs a).0.answer
  finish-number = ap (λ (r : Step). r.answer.number) finish-is.0 ∙ back-number a.0 (closing κs a).0

  pub c-finish-back : ¬ (x.result.answer.number ≡ 0) → (x.result.session ≡ a.0) × (x.last.1.0 ≡ a.1.0.now)
  c-finish-back u =
      let refused : ¬ (number_of (closing κs a).0.answer ≡ 0) = λ z. u (finish-number ∙ z) in
      (ap (λ (r : Step). r.session) finish-is.0 ∙ back-came a.0 (closing κs a).0 refused, finish-is.1 ∙ (refused-finish (inward a.0) a.1.0.now refused).1)

  pub finish-in : inward x.result.session ≡ (closing κs a).0.session
  finish-in = ap (λ (r : Step). inward r.session) finish-is.0 ∙ handed-in a.0 (closing κs a).0 (λ u. (refused-finish (inward a.0) a.1.0.now u).0)

module _ (κs : Lfts 0) (a : Dens κs finish-check-k.ps) (x : FinishedCheck κs a) where
  pub finish-check-number : x.result.answer.number ≡ number_of (judging κs a).answer
  finish-check-number = ap (λ (r : Step). r.answer.number) x.ensures ∙ back-number a.0 (judging κs a)

  pub c-finish-check-back : ¬ (x.result.answer.number ≡ 0) → x.result.session ≡ a.0
  c-finish-check-back u = ap (λ (r : Step). r.session) x.ensures ∙ back-came a.0 (judging κs a) (λ z. u (finish-check-number ∙ z))

  pub finish-check-in : inward x.result.session ≡ (judging κs a).session
  finish-check-in = ap (λ (r : Step). inward r.session) x.ensures ∙ handed-in a.0 (judging κs a) (refused-check (inward a.0))
