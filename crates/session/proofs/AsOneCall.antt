-- A session and one call, both ways: a session that runs, with its joined bits as the message, is finished as `make` answers for them,
-- refusals 9 and 10 included, and leaves the same room (`ends-as-one-call`; under padding 3 where the declared length is met, for else
-- the finish gets 12). So a session that can be finished has an accepted one call (`finished-as-one-call`), and 9 is refused by both or by
-- neither (`nine-by-both`). The other way round, what one call accepts a session accepts under every cut: `accepting`.
-- Assumes nothing.
use Rattle.std.proofs.Common.{◌≡◌, refl, sym, ap, ◌∙◌, Bool, true, false, not, List, [], ◌∷◌, ℕ, ◌≤◌, arith, eq-eqb, eqb-true, le-ltb, eqb, ltb, length}
use borrow.Author.Tests.{eqb-false}
use Rattle.bits.specs.Choice.{pick, ◌given◌, first_of}
use Rattle.bits.specs.Str.{Bits}
use Rattle.bits.proofs.Faults.{Clear, clear_first, clear-append, first_past, first-append-clear}
use Rattle.mac.specs.Padding.{method_at, block_count}
use Rattle.mac.specs.Algorithm.{algorithm_at, row}
use Rattle.mac.specs.Tag.{bits_of, bytes_for}
use Rattle.mac.proofs.Numbers.{least-two}
use Rattle.mac.proofs.Padded.{needed, count-three}
use Rattle.mac.proofs.TagBytes.{length-bits_of}
use Rattle.cipher.specs.Ciphers.{cipher_at}
use Rattle.cipher.proofs.Laws.{lawful-at}
use Rattle.settings.specs.InUse.{agreement_faults}
use Rattle.settings.specs.Answers.{number_of, settings_of, Told}
use Rattle.settings.specs.declared.Agreement.{Agreement}
use Rattle.settings.proofs.Numbers.{Unrefused}
use Rattle.settings.proofs.Sound.{agreement-numbered}
use Rattle.message.specs.Faults.{too_few_blocks, room_short, message_faults}
use Rattle.tag.specs.OneCall.{one_call_faults, made_by, make_of}
use Rattle.tag.proofs.Numbers.{made_of, make-faults, sound-made, made-of}
use Rattle.session.specs.declared.Session.{Session}
use Rattle.session.specs.Calls.{Stepped, start_faults, fresh_of, declared_at, start_of, falls_short, end_faults, finish_faults, finish_of}
use Rattle.session.specs.Record.{standing, is_check}
use Rattle.session.proofs.Open.{opens, ended}
use Rattle.session.proofs.Stood.{stood}
use Rattle.session.proofs.OneStep.{finish-faults, finish-sound}
use Rattle.session.proofs.Joined.{Act, Running, ending, Begun, to_make, record-after, message, finished, finish-runs, declared-met, finish-stood, after-stood, joined-bits}
use Rattle.session.proofs.StaysOpen.{three-no, kept-no, start-clear}

-- bytes of which the first l bits are the message x
pub record Holds (bytes : List ℕ) (l : ℕ) (x : Bits) : Type 0 where
  pub long : length bytes ≡ bytes_for l
  pub bits : bits_of bytes l ≡ x

length-held : (bytes : List ℕ) (l : ℕ) (x : Bits) → Holds bytes l x → length x ≡ l
unfolding bytes_for
length-held bytes l x h = ap length (sym h.bits) ∙ length-bits_of bytes l (omega (arith, h.long))

-- what is left of both orders: 9, then 10
abbrev pub last_two : Agreement → ℕ → Bool → ℕ
last_two A l ten = first_of (9 given too_few_blocks (settings_of A) l ∷ 10 given ten ∷ [])

-- the faults of its finish, its purpose being to make
stood-faults : (A : Agreement) (s : List ℕ) (d : ℕ) (x : Bits) (room : ℕ) → finish_faults (stood A s d x) room ≡ end_faults (stood A s d x) false (room_short A.m room)
unfolding finish_faults is_check stood standing fresh_of
stood-faults A s d x room = refl

-- ---- a session that runs after the bits x; what is said of its faults holds for either purpose (`aimed-end`)

module _ (A : Agreement) (s : List ℕ) (d : ℕ) (g : Clear (start_faults A s d)) (x : Bits) (runs : Running (stood A s d x)) where
  -- 11 and 12 are not there
  pub end-last : (A.padding ≡ 3 → d ≡ length x) → (ten : Bool) → first_of (end_faults (stood A s d x) false ten) ≡ last_two A (length x) ten
  unfolding end_faults stood standing fresh_of
  end-last met ten =
      first_past 11 _ _ runs ∙ first_past 11 _ _ refl
      ∙ first_past 12 _ _ (kept-no A.padding d (λ k. ltb (length x) k) (three-no A.padding _ (λ e. le-ltb (length x) d (omega (arith, met e)))))

  -- 1 to 5 are not there, nor 7 and 8
  pub one-call-last : (bytes : List ℕ) (l : ℕ) → Holds bytes l x → (ten : Bool) → first_of (one_call_faults A s (length bytes) l ten) ≡ last_two A (length x) ten
  unfolding one_call_faults start_faults message_faults stood standing fresh_of
  one-call-last bytes l h ten =
      first-append-clear (agreement_faults A s) _ (agreement-numbered A s) (clear_first (clear-append (agreement_faults A s) _ g).0)
      ∙ first_past 7 _ _ (ap not (eq-eqb (length bytes) (bytes_for l) h.long))
      ∙ first_past 8 _ _ (le-ltb 8388608 l (omega (arith, few, length-held bytes l x h)))
      ∙ ap (λ (k : ℕ). first_of (9 given too_few_blocks (settings_of A) k ∷ 10 given ten ∷ [])) (sym (length-held bytes l x h))
    where
      few : length x ≤ 8388608
      few = (opens (stood A s d x) runs).few

  both : (A.padding ≡ 3 → d ≡ length x) → (bytes : List ℕ) (l : ℕ) → Holds bytes l x → (room : List ℕ)
      → ((finish_of (stood A s d x) room).0.answer, (finish_of (stood A s d x) room).1) ≡ make_of A s bytes l room
  unfolding finish_of make_of made_by pick
  both met bytes l h room = go (eqb no 0) refl
    where
      no : ℕ
      no = first_of (finish_faults (stood A s d x) (length room))

      same : no ≡ first_of (one_call_faults A s (length bytes) l (room_short A.m (length room)))
      same = ap first_of (stood-faults A s d x (length room)) ∙ end-last met (room_short A.m (length room)) ∙ sym (one-call-last bytes l h (room_short A.m (length room)))

      go : (b : Bool) → eqb no 0 ≡ b → ((finish_of (stood A s d x) room).0.answer, (finish_of (stood A s d x) room).1) ≡ make_of A s bytes l room
      go true e =
          let z = eqb-true no 0 e in
          ap (λ (r : Stepped × List ℕ). (r.0.answer, r.1)) (finish-stood A s d x room z)
          ∙ sym (sound-made A s bytes l room (sym same ∙ z) ∙ ap (λ (w : Bits). made_of A s w room) h.bits)
      go false e = rw (e, sym same, e) refl

-- ---- 9 under padding 3: never, for L and a block of the message are two

never-few : (A : Agreement) (l : ℕ) → A.padding ≡ 3 → too_few_blocks (settings_of A) l ≡ false
unfolding needed
never-few A l e =
    le-ltb (block_count (method_at A.padding) (cipher_at 1).n l) (row (algorithm_at A.algorithm)).least (omega (arith, least-two (algorithm_at A.algorithm), count-three (cipher_at 1).n l (lawful-at 1).wide A.padding e))

-- 12 or 10 may be there, not 9
no_nine : (b t : Bool) → ¬ (first_of (12 given b ∷ 9 given false ∷ 10 given t ∷ []) ≡ 9)
unfolding first_of pick
no_nine true t e = absurd (omega arith)
no_nine false true e = absurd (omega arith)
no_nine false false e = absurd (omega arith)

module _ (A : Agreement) (s : List ℕ) (d : ℕ) (g : Clear (start_faults A s d)) (x : Bits) (runs : Running (stood A s d x)) where
  never-nine : A.padding ≡ 3 → (ten : Bool) → ¬ (first_of (end_faults (stood A s d x) false ten) ≡ 9)
  unfolding end_faults stood standing fresh_of
  never-nine three ten e =
      no_nine (falls_short A.padding (declared_at A.padding d) (length x)) ten
      (ap (λ (b : Bool). first_of (12 given falls_short A.padding (declared_at A.padding d) (length x) ∷ 9 given b ∷ 10 given ten ∷ [])) (sym (never-few A (length x) three))
      ∙ sym (first_past 11 _ _ runs ∙ first_past 11 _ _ refl) ∙ e)

  one-never-nine : A.padding ≡ 3 → (bytes : List ℕ) (l : ℕ) → Holds bytes l x → (ten : Bool) → ¬ (first_of (one_call_faults A s (length bytes) l ten) ≡ 9)
  one-never-nine three bytes l h ten e =
      no_nine false ten
      (first_past 12 false _ refl ∙ ap (λ (b : Bool). first_of (9 given b ∷ 10 given ten ∷ [])) (sym (never-few A (length x) three)) ∙ sym (one-call-last A s d g x runs bytes l h ten) ∙ e)

  -- so it is there in both orders or in neither
  abbrev NineBoth : List ℕ → ℕ → Bool → Type 0
  NineBoth bytes l ten =
      let end = first_of (end_faults (stood A s d x) false ten) in
      let one = first_of (one_call_faults A s (length bytes) l ten) in
      (end ≡ 9 → one ≡ 9) × (one ≡ 9 → end ≡ 9)

  pub nine-faults : (bytes : List ℕ) (l : ℕ) → Holds bytes l x → (ten : Bool) → NineBoth bytes l ten
  nine-faults bytes l h ten = go (eqb A.padding 3) refl
    where
      go : (b : Bool) → eqb A.padding 3 ≡ b → NineBoth bytes l ten
      go true p = let three = eqb-true A.padding 3 p in (λ nine. absurd (never-nine three ten nine), λ nine. absurd (one-never-nine three bytes l h ten nine))
      go false p =
          let same = end-last A s d g x runs (λ e. absurd (eqb-false A.padding 3 p e)) ten ∙ sym (one-call-last A s d g x runs bytes l h ten) in
          (λ nine. sym same ∙ nine, λ nine. same ∙ nine)

-- under padding 3 the declared length is kept
pub declared-kept : (p d : ℕ) → p ≡ 3 → declared_at p d ≡ d
unfolding declared_at pick
declared-kept p d e = ap (λ (k : ℕ). pick (eqb k 3) d 0) e

-- ---- the statements: of every start that was accepted and any calls after it

module _ (A : Agreement) (s : List ℕ) (d : ℕ) (u : Unrefused (start_of A s d).answer) (cs : List Act) (bytes : List ℕ) (l : ℕ) (h : Holds bytes l (message (to_make A s d) cs)) (room : List ℕ) where
  abbrev b : Begun
  b = to_make A s d

  abbrev one : Told × List ℕ
  one = make_of A s bytes l room

  abbrev end : Stepped × List ℕ
  end = finished A s d cs room

  pub ends-as-one-call : Running (record-after b cs) → (A.padding ≡ 3 → d ≡ length (message b cs)) → (end.0.answer, end.1) ≡ one
  ends-as-one-call runs met =
      let e = after-stood b u cs runs in
      ap (λ (t : Session). ((finish_of t room).0.answer, (finish_of t room).1)) e
      ∙ both A s d (start-clear A s d u) (message b cs) (rw e at runs) met bytes l h room

  pub finished-as-one-call : Unrefused end.0.answer → Unrefused one.0 × (end ≡ ending one)
  unfolding finish_faults
  finished-as-one-call f = (accepted, joined-bits A s d u cs room f ∙ ap ending (sym (made-of A s bytes l room accepted ∙ ap (λ (w : Bits). made_of A s w room) h.bits)))
    where
      runs : Running (record-after b cs)
      runs = finish-runs (record-after b cs) room f

      -- no 12: the declared length is met
      met : A.padding ≡ 3 → d ≡ length (message b cs)
      met e =
          let sound = finish-sound (record-after b cs) room f in
          let met_at = declared-met A s d (message b cs) (ended _ _ _ (rw (after-stood b u cs runs) at sound)) e in
          sym (declared-kept A.padding d e) ∙ met_at

      accepted : Unrefused one.0
      accepted = ap (λ (r : Told × List ℕ). number_of r.0) (sym (ends-as-one-call runs met)) ∙ f

  pub nine-by-both : Running (record-after b cs) → (number_of end.0.answer ≡ 9 → number_of one.0 ≡ 9) × (number_of one.0 ≡ 9 → number_of end.0.answer ≡ 9)
  nine-by-both runs =
      let e = after-stood b u cs runs in
      let nine = nine-faults A s d (start-clear A s d u) (message b cs) (rw e at runs) bytes l h (room_short A.m (length room)) in
      let ended = ap (λ (t : Session). number_of (finish_of t room).0.answer) e ∙ finish-faults (stood A s d (message b cs)) room ∙ ap first_of (stood-faults A s d (message b cs) (length room)) in
      let made = make-faults A s bytes l room in
      (λ k. made ∙ nine.0 (sym ended ∙ k), λ k. ended ∙ nine.1 (sym made ∙ k))
