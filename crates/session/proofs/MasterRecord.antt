-- A session under a master that is given alone (algorithms 2 and 6): an accepted start keeps the master and sixteen zeros
-- (`start-keeps`), and what stands in place of these zeros is not read: with other bytes there a record takes pieces as before and keeps
-- these bytes (`piece-unread`), and both finishes answer as before (`finish-unread`, `check-unread`). And so of every answer that the
-- contracts allow: `started-keeps`, `pieced-alike`, `finished-alike`, `checked-alike`.
-- Assumes nothing.
use Rattle.std.proofs.Common.{◌≡◌, refl, sym, ap, ap₂, ◌∙◌, Bool, true, false, not, List, ◌++◌, ℕ, ◌+◌, arith, length, replicate, drop_of_length-le}
use contract.Lifetimes.{Lfts}
use borrow.Fn.Kinds.{Dens}
use Rattle.bits.specs.Str.{Bits}
use Rattle.bits.proofs.Choice.{pick-ap}
use Rattle.block.specs.Block.{front}
use Rattle.block.proofs.Fronts.{front-alone}
use Rattle.cipher.specs.Ciphers.{cipher_at}
use Rattle.mac.specs.Run.{Run}
use Rattle.mac.specs.Padding.{method_at, suffix, complete}
use Rattle.mac.specs.Algorithm.{algorithm_at, row, Keys, steps}
use Rattle.mac.specs.Session.{absorb, finish}
use Rattle.mac.specs.Tag.{bits_of}
use Rattle.keys.specs.Given.{unpack_of, given_of}
use Rattle.keys.proofs.GivenKeys.{master-alone}
use Rattle.settings.specs.Answers.{number_of}
use Rattle.settings.specs.declared.Agreement.{Agreement}
use Rattle.settings.proofs.Told.{same-told}
use Rattle.settings.proofs.Numbers.{Unrefused}
use Rattle.message.specs.Faults.{room_short}
use Rattle.session.specs.declared.Session.{Session}
use Rattle.session.specs.Calls.{Stepped, stepped, fresh_of, start_of, piece_faults, fed_of, piece_of, end_faults, finish_faults, tag_in, calls_in, finish_of, finish_check_faults, judged_of, finish_check_of}
use Rattle.session.specs.Record.{keys_in, standing, state_in, is_check, closed_faults, counts_closed}
use Rattle.session.proofs.Told.{same-stepped}
use Rattle.session.proofs.Stood.{stood}
use Rattle.session.proofs.Answers.{of-step, chosen-alike}
use Rattle.session.proofs.OneStep.{of_end}
use Rattle.session.proofs.Joined.{start-stood}
use Rattle.session.proofs.Run.{Started, Pieced, Finished, FinishedCheck}
use Rattle.session.proofs.start.Kinds as start-k
use Rattle.session.proofs.Session.piece.Kinds as piece-k
use Rattle.session.proofs.Session.finish.Kinds as finish-k
use Rattle.session.proofs.Session.finish_check.Kinds as check-k

kept-alone : (s : List ℕ) → length s ≡ 16 → given_of s ≡ s ++ replicate 16 0
unfolding given_of front
kept-alone s h = ap₂ (λ (x y : List ℕ). x ++ y) (front-alone s h) (ap front (drop_of_length-le s {i = 16} (omega arith)))

pub start-keeps : (A : Agreement) (s : List ℕ) (d : ℕ) → Unrefused (start_of A s d).answer → length s ≡ 16 → (start_of A s d).session.keys ≡ s ++ replicate 16 0
unfolding stood standing fresh_of
start-keeps A s d u h = ap (λ (t : Session). t.keys) (start-stood A s d u) ∙ kept-alone s h

-- the record with other bytes in place of its keys
unfoldable pub with_keys : List ℕ → Session → Session
with_keys k s = record s { keys = k }

-- a step with other bytes in place of its record's keys
abbrev with_keys_in : List ℕ → Stepped → Stepped
with_keys_in k r = record r { session = with_keys k r.session }

module _ (s : Session) (k : List ℕ) (master : s.agreement.master ≡ true) (alone : (row (algorithm_at s.agreement.algorithm)).third ≡ false) (same : front k ≡ front s.keys) where
  abbrev A : Agreement
  A = s.agreement

  abbrev n : ℕ
  n = (cipher_at 1).n

  unpacked-same : unpack_of A.master A.algorithm k ≡ unpack_of A.master A.algorithm s.keys
  unpacked-same = ap (λ (b : Bool). unpack_of b A.algorithm k) master ∙ master-alone A.algorithm alone k s.keys same ∙ ap (λ (b : Bool). unpack_of b A.algorithm s.keys) (sym master)

  keys-same : keys_in (with_keys k s) ≡ keys_in s
  unfolding with_keys
  keys-same = ap (λ (r : Run Keys). r.out) unpacked-same

  closed_same : counts_closed (with_keys k s) ≡ counts_closed s
  unfolding counts_closed closed_faults with_keys
  closed_same = rw keys-same refl

  tag_same : tag_in (with_keys k s) ≡ tag_in s
  unfolding tag_in state_in with_keys
  tag_same = ap (λ (K : Keys). let S = (steps (cipher_at 1) (algorithm_at A.algorithm) K).out in (finish S (complete n s.total) A.m (absorb n S (state_in s) (suffix (method_at A.padding) n s.total))).out) keys-same

  calls_same : calls_in (with_keys k s) ≡ calls_in s
  unfolding calls_in with_keys
  calls_same = rw unpacked-same refl

  fed-same : (x : Bits) → fed_of (with_keys k s) x ≡ with_keys k (fed_of s x)
  unfolding fed_of standing state_in with_keys
  fed-same x = ap (λ (K : Keys). with_keys k (standing s (s.total + length x) (absorb n (steps (cipher_at 1) (algorithm_at A.algorithm) K).out (state_in s) x))) keys-same

  piece-faults : (c bits : ℕ) → piece_faults (with_keys k s) c bits ≡ piece_faults s c bits
  unfolding piece_faults with_keys
  piece-faults c bits = rw closed_same refl

  end-faults : (other ten : Bool) → end_faults (with_keys k s) other ten ≡ end_faults s other ten
  unfolding end_faults with_keys
  end-faults other ten = rw closed_same refl

  pub piece-unread : (bytes : List ℕ) (bits : ℕ) → piece_of (with_keys k s) bytes bits ≡ with_keys_in k (piece_of s bytes bits)
  unfolding piece_of
  piece-unread bytes bits = rw (piece-faults (length bytes) bits, fed-same (bits_of bytes bits)) (sym (pick-ap (with_keys_in k) _ _ _))

  -- neither the answer nor the room depends on the record that a refusal hands back
  pub finish-unread : (room : List ℕ) → let other = finish_of (with_keys k s) room in let own = finish_of s room in (other.0.answer ≡ own.0.answer) × (other.1 ≡ own.1)
  unfolding finish_of finish_faults with_keys
  finish-unread room = rw (end-faults (is_check s.purpose) (room_short A.m (length room)), tag_same, calls_same) (chosen-alike of_end _ refl refl, chosen-alike (λ (r : Stepped × List ℕ). r.1) _ refl refl)

  pub check-unread : (finish_check_of (with_keys k s)).answer ≡ (finish_check_of s).answer
  unfolding finish_check_of finish_check_faults judged_of with_keys
  check-unread = rw (end-faults (not (is_check s.purpose)) false, tag_same, calls_same) (chosen-alike of-step _ refl refl)

-- ---- and so of every answer that the contracts allow

module _ (κs : Lfts 1) (a : Dens κs start-k.ps) (x : Started κs a) where
  pub started-keeps : Unrefused (stepped x.result).answer → length a.1.0.now ≡ 16 → x.result.session.keys ≡ a.1.0.now ++ replicate 16 0
  started-keeps u h =
      let e = x.ensures in
      ap (λ (t : Stepped). t.session.keys) e ∙ start-keeps a.0 a.1.0.now a.1.1.0 (ap (λ (t : Stepped). number_of t.answer) (sym e) ∙ u) h

-- a record under a master that is given alone, and the record with other bytes that begin as its keys do
pub record Alike (s t : Session) : Type 0 where
  pub master : s.agreement.master ≡ true
  pub alone : (row (algorithm_at s.agreement.algorithm)).third ≡ false
  pub bytes : List ℕ
  pub same : front bytes ≡ front s.keys
  pub other : t ≡ with_keys bytes s

module _ (κs : Lfts 1) (a : Dens κs piece-k.ps) (x : Pieced κs a) (λs : Lfts 1) (b : Dens λs piece-k.ps) (y : Pieced λs b) where
  pub pieced-alike : (h : Alike a.0 b.0) → b.1.0.now ≡ a.1.0.now → b.1.1.0 ≡ a.1.1.0 → y.result ≡ record { answer = x.result.answer; session = with_keys h.bytes x.result.session }
  pieced-alike h bytes bits =
      same-stepped y.result (record { answer = x.result.answer; session = with_keys h.bytes x.result.session })
      (y.ensures ∙ (λ i. piece_of (h.other i) (bytes i) (bits i)) ∙ piece-unread a.0 h.bytes h.master h.alone h.same a.1.0.now a.1.1.0
      ∙ ap (with_keys_in h.bytes) (sym x.ensures))

module _ (κs : Lfts 1) (a : Dens κs finish-k.ps) (x : Finished κs a) (λs : Lfts 1) (b : Dens λs finish-k.ps) (y : Finished λs b) where
  pub finished-alike : Alike a.0 b.0 → b.1.0.now ≡ a.1.0.now → (y.result.answer ≡ x.result.answer) × (y.last.1.0 ≡ x.last.1.0)
  finished-alike h room =
      let both = finish-unread a.0 h.bytes h.master h.alone h.same a.1.0.now in
      let ended = y.ensures ∙ ap₂ finish_of h.other room in (
        same-told _ _ (ap (λ (r : Stepped × List ℕ). r.0.answer) ended ∙ both.0 ∙ sym (ap (λ (r : Stepped × List ℕ). r.0.answer) x.ensures)),
        ap (λ (r : Stepped × List ℕ). r.1) ended ∙ both.1 ∙ sym (ap (λ (r : Stepped × List ℕ). r.1) x.ensures),
      )

module _ (κs : Lfts 0) (a : Dens κs check-k.ps) (x : FinishedCheck κs a) (λs : Lfts 0) (b : Dens λs check-k.ps) (y : FinishedCheck λs b) where
  pub checked-alike : Alike a.0 b.0 → y.result.answer ≡ x.result.answer
  checked-alike h =
      same-told _ _
      (ap (λ (r : Stepped). r.answer) (y.ensures ∙ ap finish_check_of h.other) ∙ check-unread a.0 h.bytes h.master h.alone h.same
      ∙ sym (ap (λ (r : Stepped). r.answer) x.ensures))
