-- An accepted start of either purpose, and an accepted piece offered to any record at all, leave the session open (01, "Numbered
-- answers"): no test by which a record counts as closed finds anything in what they hand back (`start-opens`, `start-check-opens`,
-- `piece-opens`). `stood-open` and `aimed-open` say it of every record that an accepted start and bits within the limits lead to.
-- Assumes nothing.
use Rattle.std.proofs.Common.{◌≡◌, refl, sym, ap, ◌∙◌, Bool, true, false, not, ◌&&◌, List, [], ℕ, ◌+◌, ◌%◌, ◌≤◌, arith, eq-eqb, eqb-true, le-ltb, eqb, ltb, length}
use Rattle.bits.specs.Choice.{pick}
use Rattle.bits.specs.Str.{Bits}
use Rattle.bits.proofs.Faults.{Clear, passed, done, first-clear, clear_first, clear-one, clear-append}
use Rattle.block.specs.Block.{front}
use Rattle.mac.specs.Run.{Run}
use Rattle.mac.specs.Algorithm.{Keys}
use Rattle.mac.specs.Session.{absorb}
use Rattle.mac.proofs.TagBytes.{length-bits_of}
use Rattle.cipher.specs.Ciphers.{cipher_at}
use Rattle.cipher.proofs.Laws.{lawful-at, width-at}
use Rattle.keys.specs.Given.{given_of}
use Rattle.keys.specs.Faults.{key_bytes}
use Rattle.keys.proofs.GivenKeys.{given-keys}
use Rattle.settings.specs.InUse.{in_use, agreement_faults}
use Rattle.settings.specs.Faults.{settings_refusal}
use Rattle.settings.specs.declared.Agreement.{Agreement}
use Rattle.settings.proofs.Numbers.{Unrefused}
use Rattle.settings.proofs.Sound.{needed-clear}
use Rattle.message.specs.Faults.{too_many_bits}
use Rattle.chain.specs.Chain.{hold_of}
use Rattle.chain.proofs.Standing.{Reached, reached-at, reached-next, keeps}
use Rattle.session.specs.declared.Purpose.{Purpose}
use Rattle.session.specs.declared.Purpose.TheVariants.{Checking}
use Rattle.session.specs.declared.Session.{Session}
use Rattle.session.specs.Calls.{Stepped, start_faults, fresh_of, declared_at, start_of, start_check_of, steps_in, piece_faults, fed_of}
use Rattle.session.specs.Record.{keys_in, state_in, standing, aimed, phase_at, phase_unfit, settings_unsound, declared_too_long, passes_declared, closed_faults, counts_closed}
use Rattle.session.proofs.Open.{open-clear, taken, piece-none}
use Rattle.session.proofs.Answers.{start-faults, start-numbered}
use Rattle.session.proofs.Purposes.{aimed-closed}
use Rattle.session.proofs.Stood.{stood, held-clean, stood-clean}
use Rattle.session.proofs.OneStep.{Offered, bits_in, offer, piece-taken, piece-sound, start-check-clear}
use Rattle.session.proofs.Joined.{Running, start-stood, start-check-stood}

-- ---- tests that find nothing

-- under padding 3 only
pub three-no : (p : ℕ) (b : Bool) → (p ≡ 3 → b ≡ false) → eqb p 3 && b ≡ false
three-no p b h = go (eqb p 3) refl
  where
    go : (c : Bool) → eqb p 3 ≡ c → c && b ≡ false
    go true e = h (eqb-true p 3 e)
    go false e = refl

-- what a length does not do, the length that is kept of it does not do
pub kept-no : (p d : ℕ) (test : ℕ → Bool) → eqb p 3 && test d ≡ false → eqb p 3 && test (declared_at p d) ≡ false
unfolding declared_at pick
kept-no p d test = go (eqb p 3)
  where
    go : (b : Bool) → b && test d ≡ false → b && test (pick b d 0) ≡ false
    go true e = e
    go false e = refl

phase-fits : (l : ℕ) → phase_unfit (phase_at l) l ≡ false
unfolding phase_at phase_unfit pick
phase-fits l = go (eqb (l % 8) 0) refl
  where
    go : (b : Bool) → eqb (l % 8) 0 ≡ b → phase_unfit (phase_at l) l ≡ false
    go true e = rw (e, e)
    go false e = rw (e, e, eq-eqb (l % 8) (l % 8) refl)

-- a record runs where no test finds anything
runs : (s : Session) → Clear (closed_faults s) → Running s
unfolding counts_closed
runs s c = ap (λ (k : ℕ). not (eqb k 0)) (clear_first c)

-- ---- after an accepted start

module _ (A : Agreement) (s : List ℕ) (d : ℕ) where
  pub start-clear : Unrefused (start_of A s d).answer → Clear (start_faults A s d)
  start-clear u = first-clear _ (start-numbered A s d) (sym (start-faults A s d) ∙ u)

  settings-sound : Clear (start_faults A s d) → settings_unsound A (in_use A (given_of s)) ≡ false
  unfolding start_faults settings_refusal
  settings-sound g =
      let n : ℕ = key_bytes A.master A.algorithm in
      ap (λ (r : Run Keys). not (eqb (settings_refusal A n r.out) 0)) (given-keys A.master A.algorithm s)
      ∙ ap (λ (k : ℕ). not (eqb k 0)) (clear_first (needed-clear A (length s) (in_use A s) (clear-append (agreement_faults A s) _ g).0))

  declared-short : Clear (start_faults A s d) → declared_too_long A.padding d ≡ false
  unfolding start_faults
  declared-short g = clear-one (clear-append (agreement_faults A s) _ g).1

  pub stood-open : Clear (start_faults A s d) → (x : Bits) → length x ≤ 8388608 → (A.padding ≡ 3 → length x ≤ d) → Running (stood A s d x)
  unfolding closed_faults stood standing fresh_of
  stood-open g x few within =
      runs (stood A s d x)
      (passed (phase-fits (length x))
      (passed (settings-sound g)
      (passed (le-ltb 8388608 (length x) few)
      (passed (kept-no A.padding d (λ k. ltb 8388608 k) (declared-short g))
      (passed (kept-no A.padding d (λ k. ltb k (length x)) (three-no A.padding _ (λ e. le-ltb d (length x) (within e))))
      (passed (stood-clean A s d x) done))))))

  -- of either purpose
  pub aimed-open : (p : Purpose) (e : List ℕ) → Clear (start_faults A s d) → (x : Bits) → length x ≤ 8388608 → (A.padding ≡ 3 → length x ≤ d) → Running (aimed p e (stood A s d x))
  aimed-open p e g x few within = aimed-closed p e (stood A s d x) ∙ stood-open g x few within

  pub start-opens : Unrefused (start_of A s d).answer → Running (start_of A s d).session
  start-opens u = let e = start-stood A s d u in rw e (stood-open (start-clear u) [] (omega arith) (λ h. omega arith))

  pub start-check-opens : (tag : List ℕ) → Unrefused (start_check_of A s d tag).answer → Running (start_check_of A s d tag).session
  start-check-opens tag u =
      let e = start-check-stood A s d tag u in
      rw e (aimed-open Checking (front tag) (start-check-clear A s d tag u).0 [] (omega arith) (λ h. omega arith))

-- ---- after an accepted piece: of any record whose blocks have sixteen bytes

module _ (s : Session) (hv : length s.hold.value ≡ 16) (hh : length s.hold.held ≡ 16) where
  abbrev n : ℕ
  n = (cipher_at 1).n

  -- the bits that wait after x
  next-long : (x : Bits) → Reached n s.agreement.padding (s.total + length x) (absorb n (steps_in s) (state_in s) x)
  unfolding state_in
  next-long x =
      let A = s.agreement in
      reached-next n (lawful-at 1).wide (steps_in s) (keeps 1 A.algorithm A.padding (keys_in s)) A.padding s.total _ (reached-at n A.padding s.total s.hold (width-at 1) hv hh) x

  fed-open : (q : Offered) → Clear (piece_faults s (length q.bytes) q.bits) → length (bits_in q) ≡ q.bits → Running (fed_of s (bits_in q))
  unfolding piece_faults closed_faults fed_of standing hold_of
  fed-open q (passed shut (passed late (passed seven (passed eight (passed twelve done))))) long = go (open-clear s shut)
    where
      l : ℕ
      l = s.total + length (bits_in q)

      sum : s.total + q.bits ≡ l
      sum = ap (λ (k : ℕ). s.total + k) (sym long)

      go : Clear (closed_faults s) → Running (fed_of s (bits_in q))
      go (passed unfit (passed unsound (passed many (passed declared (passed past (passed stray done)))))) =
          runs (fed_of s (bits_in q))
          (passed (phase-fits l)
          (passed unsound
          (passed (sym (ap too_many_bits sum) ∙ eight)
          (passed declared
          (passed (sym (ap (passes_declared s.agreement.padding s.declared) sum) ∙ twelve)
          (passed (held-clean l (absorb n (steps_in s) (state_in s) (bits_in q)).held (next-long (bits_in q)).long) done))))))

  pub piece-opens : (q : Offered) → Unrefused (offer s q).answer → Running (offer s q).session
  piece-opens q u =
      let t = taken s (length q.bytes) q.bits (piece-sound s q u) in
      let e = ap (λ (r : Stepped). r.session) (piece-taken s q u) in
      rw e (fed-open q (piece-none s (length q.bytes) q.bits (piece-sound s q u)) (length-bits_of q.bytes q.bits t.long))
