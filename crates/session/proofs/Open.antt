-- No refusal means all that its tests ask: of a record that does not count as closed (`opens`), of a start (`declared-few`), of an
-- accepted piece (`taken`) and of a finish that is not refused (`ended`). Each is read off its list of tests, all of which say no;
-- `declared-few` is what the test of a start says of the length that it keeps.
-- Assumes nothing.
use Rattle.std.proofs.Common.{◌≡◌, refl, sym, ap, ◌∙◌, Bool, true, false, not, ◌&&◌, ℕ, ◌+◌, ◌*◌, ◌%◌, ◌≤◌, ◌<◌, arith, eqb-true, ltb-false, eq-eqb, ne_eqb, eqb, ltb}
use mathlib.Core.Bool.{false≢true}
use borrow.Author.Tests.{eqb-false, not-false}
use Rattle.bits.specs.Choice.{pick, first_of}
use Rattle.bits.specs.Str.{bytes_bits, leftmost}
use Rattle.block.specs.Block.{storage, filled_block}
use Rattle.bits.proofs.Choice.{hit, miss}
use Rattle.bits.proofs.Strings.{same_b-eq}
use Rattle.bits.proofs.Faults.{Clear, passed, done, all, with, Numbered, first-clear}
use Rattle.cipher.specs.Ciphers.{cipher_at}
use Rattle.mac.specs.Tag.{bytes_for}
use Rattle.keys.specs.Faults.{key_bytes}
use Rattle.settings.specs.Faults.{settings_refusal}
use Rattle.settings.specs.Answers.{settings_of}
use Rattle.settings.proofs.Sound.{sound-size}
use Rattle.message.specs.Faults.{length_wrong, too_few_blocks}
use Rattle.chain.specs.Chain.{held_bits}
use Rattle.session.specs.declared.Phase.{Phase}
use Rattle.session.specs.declared.Phase.TheVariants.{Closed, Edge, Part}
use Rattle.session.specs.declared.Session.{Session}
use Rattle.session.specs.Record.{keys_in, phase_at, phase_unfit, declared_too_long, closed_faults, counts_closed}
use Rattle.session.specs.Calls.{declared_at, late_bits, piece_faults, end_faults, finish_faults}

-- ---- tests that say no

and_second : (a b : Bool) → a && b ≡ false → a ≡ true → b ≡ false
and_second true b e h = e
and_second false b e h = absurd (false≢true h)

-- a border that counts under padding 3 only
under-three : (p k l : ℕ) → eqb p 3 && ltb k l ≡ false → p ≡ 3 → l ≤ k
under-three p k l e h = ltb-false k l (and_second (eqb p 3) (ltb k l) e (eq-eqb p 3 h))

-- ---- the declared length that a start keeps
pub declared-few : (p d : ℕ) → declared_too_long p d ≡ false → declared_at p d ≤ 8388608
unfolding declared_at pick
declared-few p d h = go (eqb p 3) h
  where
    go : (b : Bool) → b && ltb 8388608 d ≡ false → pick b d 0 ≤ 8388608
    go true e = ltb-false 8388608 d e
    go false e = omega arith

-- ---- a record that does not count as closed

fit-in : (p : Phase) (l : ℕ) → phase_unfit p l ≡ false → p ≡ phase_at l
unfolding phase_unfit phase_at pick
fit-in Closed l e = absurd (false≢true (sym e))
fit-in Edge l e = hit _ _ _ _ (not-false (eqb (l % 8) 0) e) refl
fit-in (Part n) l e = go (eqb n 0) refl e
  where
    go : (b : Bool) → eqb n 0 ≡ b → pick b true (not (eqb (l % 8) n)) ≡ false → Part n ≡ phase_at l
    go true q h = absurd (false≢true (sym h))
    go false q h =
        let same = eqb-true (l % 8) n (not-false (eqb (l % 8) n) h) in
        miss _ _ _ _ (ne_eqb (l % 8) 0 (λ z. eqb-false n 0 q (sym same ∙ z))) (ap Part (sym same))

pub record Open (s : Session) : Type 0 where
  pub fit : s.phase ≡ phase_at s.total
  pub sound : settings_refusal s.agreement (key_bytes s.agreement.master s.agreement.algorithm) (keys_in s) ≡ 0
  pub short : s.agreement.m ≤ storage
  pub few : s.total ≤ 8388608
  pub declared : s.agreement.padding ≡ 3 → s.declared ≤ 8388608
  pub within : s.agreement.padding ≡ 3 → s.total ≤ s.declared
  pub clean : filled_block (leftmost (held_bits (cipher_at 1).n s.total) (bytes_bits s.hold.held)) ≡ bytes_bits s.hold.held

closed-numbered : (s : Session) → Numbered (closed_faults s)
unfolding closed_faults
closed-numbered s = with refl (with refl (with refl (with refl (with refl (with refl all)))))

pub open-clear : (s : Session) → counts_closed s ≡ false → Clear (closed_faults s)
unfolding counts_closed
open-clear s e = first-clear (closed_faults s) (closed-numbered s) (eqb-true _ 0 (not-false _ e))

pub opens : (s : Session) → counts_closed s ≡ false → Open s
unfolding closed_faults
opens s e = go (open-clear s e)
  where
    go : Clear (closed_faults s) → Open s
    go (passed unfit (passed unsound (passed many (passed long (passed past (passed stray done)))))) =
        let sound = eqb-true _ 0 (not-false _ unsound) in
        record {
          fit = fit-in s.phase s.total unfit;
          sound = sound;
          short = (sound-size s.agreement _ (keys_in s) sound).1;
          few = ltb-false 8388608 s.total many;
          declared = under-three s.agreement.padding 8388608 s.declared long;
          within = under-three s.agreement.padding s.declared s.total past;
          clean = same_b-eq _ (bytes_bits s.hold.held) (not-false _ stray);
        }

-- ---- an accepted piece: c bytes of which so many bits count

edge_in : (l bits : ℕ) → late_bits l bits ≡ false → 0 < bits → l % 8 ≡ 0
edge_in l bits e h = eqb-true (l % 8) 0 (not-false _ (and_second _ _ e (ap not (ne_eqb bits 0 (λ z. omega arith)))))

long-in : (c bits : ℕ) → length_wrong c bits ≡ false → bits ≤ 8 * c
unfolding bytes_for
long-in c bits e = let same = eqb-true c (bytes_for bits) (not-false _ e) in omega arith

pub record Taken (s : Session) (c bits : ℕ) : Type 0 where
  pub stands : Open s
  pub edge : 0 < bits → s.total % 8 ≡ 0
  pub long : bits ≤ 8 * c
  pub few : s.total + bits ≤ 8388608
  pub within : s.agreement.padding ≡ 3 → s.total + bits ≤ s.declared

pub piece-none : (s : Session) (c bits : ℕ) → first_of (piece_faults s c bits) ≡ 0 → Clear (piece_faults s c bits)
unfolding piece_faults
piece-none s c bits e =
    first-clear (piece_faults s c bits) (with refl (with refl (with refl (with refl (with refl all))))) e

pub taken : (s : Session) (c bits : ℕ) → first_of (piece_faults s c bits) ≡ 0 → Taken s c bits
unfolding piece_faults
taken s c bits e = go (piece-none s c bits e)
  where
    go : Clear (piece_faults s c bits) → Taken s c bits
    go (passed shut (passed late (passed seven (passed eight (passed twelve done))))) = record {
      stands = opens s shut;
      edge = edge_in s.total bits late;
      long = long-in c bits seven;
      few = ltb-false 8388608 (s.total + bits) eight;
      within = under-three s.agreement.padding s.declared (s.total + bits) twelve;
    }

-- ---- a finish that is not refused, of either purpose

pub record Ended (s : Session) : Type 0 where
  pub stands : Open s
  pub whole : s.agreement.padding ≡ 3 → s.declared ≤ s.total
  pub enough : too_few_blocks (settings_of s.agreement) s.total ≡ false

module _ (s : Session) (other ten : Bool) (e : first_of (end_faults s other ten) ≡ 0) where
  end-clear : Clear (end_faults s other ten)
  unfolding end_faults
  end-clear =
      first-clear (end_faults s other ten) (with refl (with refl (with refl (with refl (with refl all))))) e

  pub ended : Ended s
  unfolding end_faults
  ended = go end-clear
    where
      go : Clear (end_faults s other ten) → Ended s
      go (passed shut (passed mine (passed twelve (passed nine (passed roomy done))))) = record {
        stands = opens s shut;
        whole = under-three s.agreement.padding s.total s.declared twelve;
        enough = nine;
      }

  no-ten : ten ≡ false
  unfolding end_faults
  no-ten = go end-clear
    where
      go : Clear (end_faults s other ten) → ten ≡ false
      go (passed shut (passed mine (passed twelve (passed nine (passed roomy done))))) = roomy

-- where a tag is made, there is room for it
pub room-wide : (s : Session) (room : ℕ) → first_of (finish_faults s room) ≡ 0 → bytes_for s.agreement.m ≤ room
unfolding finish_faults
room-wide s room e = ltb-false room (bytes_for s.agreement.m) (no-ten s _ _ e)
