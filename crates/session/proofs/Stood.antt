-- The record of a session after the bits x: it stands for the definition's state after x (crate mac). So a piece leads to the next
-- such record, and an end gives the definition's tag, with as many calls as the definition's list has.
-- Assumes nothing.
use Rattle.std.proofs.Common.{◌≡◌, refl, sym, ap, ap₂, ◌∙◌, Bool, true, false, not, List, [], ◌++◌, append-nil, ℕ, ◌+◌, ◌≤◌, ◌<◌, arith, eqb-true, eqb, length, take, replicate, length-append}
use Rattle.bits.specs.Choice.{pick}
use Rattle.bits.specs.Str.{Bits, bytes_bits, zeros, leftmost}
use Rattle.bits.proofs.Strings.{same_b-true, length-zeros}
use Rattle.block.specs.Block.{filled_block}
use Rattle.mac.specs.Run.{Run}
use Rattle.mac.specs.Padding.{Method, method_at, suffix, complete, block_count}
use Rattle.mac.specs.Algorithm.{Algorithm, algorithm_at, row, Keys, Steps, steps}
use Rattle.mac.specs.Tag.{tag_of, block_bytes}
use Rattle.mac.specs.Derive.{mac_from}
use Rattle.mac.specs.Session.{State, absorb, finish, opened, fed, closed}
use Rattle.cipher.specs.Cipher.{Cipher}
use Rattle.cipher.specs.Ciphers.{cipher_at}
use Rattle.cipher.proofs.Widths.{take-filled}
use Rattle.cipher.proofs.Laws.{lawful-at, width-at}
use Rattle.mac.proofs.Absorbing.{absorb-append, absorb-fits, one_piece, opened-held, opened-at}
use Rattle.mac.proofs.TagBytes.{block_bytes-bits}
use Rattle.mac.proofs.Derive.{from-count}
use Rattle.keys.specs.Given.{given_of}
use Rattle.settings.specs.InUse.{unpacked, in_use}
use Rattle.keys.proofs.GivenKeys.{given-keys}
use Rattle.settings.specs.declared.Agreement.{Agreement}
use Rattle.chain.specs.Chain.{held_bits, hold_of}
use Rattle.chain.proofs.Feeding.{held-le}
use Rattle.chain.proofs.Standing.{quiet, absorb-quiet, Reached, stands, reached-fed, closes}
use Rattle.session.specs.declared.Purpose.TheVariants.{Making}
use Rattle.session.specs.declared.Session.{Session}
use Rattle.session.specs.Record.{state_in, phase_at, standing, aimed, stray_bit}
use Rattle.session.specs.Calls.{fresh_of, declared_at, fed_of, tag_in, calls_in}

abbrev C : Cipher
C = cipher_at 1

abbrev n : ℕ
n = C.n

some : 0 < n
some = (lawful-at 1).wide

-- a waiting block that is made of the bits that wait after l has no bit set past them
pub held-clean : (l : ℕ) (w : Bits) → length w ≡ held_bits n l → stray_bit (held_bits n l) (bytes_bits (block_bytes w)) ≡ false
unfolding leftmost
held-clean l w h = ap not (same_b-true _ _ (ap (λ (v : Bits). filled_block (take (held_bits n l) v)) bits ∙ ap filled_block (take-filled (held_bits n l) w h) ∙ sym bits))
  where
    bits : bytes_bits (block_bytes w) ≡ filled_block w
    bits = block_bytes-bits w (omega (arith, held-le n l some, width-at 1))

-- method 3 alone reads the declared length
opened-alike : (A : Algorithm) (K : Keys) (p d e : ℕ) → (p ≡ 3 → d ≡ e) → opened C A (method_at p) K d ≡ opened C A (method_at p) K e
unfolding pick
opened-alike A K p d e h = go (eqb p 3) refl
  where
    go : (b : Bool) → eqb p 3 ≡ b → opened C A (method_at p) K d ≡ opened C A (method_at p) K e
    go true q = ap (opened C A (method_at p) K) (h (eqb-true p 3 q))
    go false q = rw (opened-at C some A K d p, opened-at C some A K e p, q)

module _ (A : Agreement) (s : List ℕ) (d : ℕ) where
  abbrev a : ℕ
  a = A.algorithm

  abbrev p : ℕ
  p = A.padding

  abbrev B : Algorithm
  B = algorithm_at a

  abbrev M : Method
  M = method_at p

  abbrev K : Keys
  K = in_use A s

  abbrev S : Steps
  S = (steps C B K).out

  -- the record that an accepted start hands out
  abbrev fresh : Session
  fresh = fresh_of A (given_of s) K (declared_at p d)

  -- the definition's state after x
  abbrev beginning : State
  beginning = opened C B M K (declared_at p d)

  abbrev after : Bits → State
  after x = absorb n S beginning x

  unfoldable pub stood : Bits → Session
  stood x = standing fresh (length x) (after x)

  -- it is for making, with zeros expected
  pub stood-making : (x : Bits) → aimed Making (replicate 16 0) (stood x) ≡ stood x
  unfolding aimed stood standing fresh_of
  stood-making x = refl

  reached : (x : Bits) → Reached n p (length x) (after x)
  reached x = reached-fed 1 a p K (declared_at p d) (length x) x refl

  state-is : (x : Bits) → state_in (stood x) ≡ quiet (after x)
  unfolding stood state_in standing fresh_of
  state-is x = stands n p (length x) (after x) (width-at 1) (reached x)

  -- no bit is set past those that wait
  pub stood-clean : (x : Bits) → stray_bit (held_bits n (length x)) (bytes_bits (stood x).hold.held) ≡ false
  unfolding stood standing fresh_of hold_of
  stood-clean x = held-clean (length x) (after x).held (reached x).long

  -- a piece
  pub stood-fed : (x y : Bits) → fed_of (stood x) y ≡ stood (x ++ y)
  unfolding fed_of stood standing fresh_of hold_of
  stood-fed x y =
      ap (λ (k : Keys). standing fresh (length x + length y) (absorb n (steps C B k).out (state_in (stood x)) y)) (ap (λ (r : Run Keys). r.out) (given-keys A.master a s))
      ∙ ap₂ (λ (l : ℕ) (t : State). standing fresh l (quiet (absorb n S t y))) (sym (length-append x y)) (state-is x)
      ∙ ap (standing fresh (length (x ++ y))) (absorb-quiet n S (after x) y)
      ∙ ap (standing fresh (length (x ++ y))) (absorb-append n S beginning x y some)

  -- the start
  pub stood-fresh : fresh ≡ stood []
  unfolding stood standing fresh_of phase_at pick
  stood-fresh =
      ap (λ (w : Bits). standing fresh 0 (record { begun = beginning.begun; value = beginning.value; held = w })) (sym (append-nil beginning.held))
      ∙ ap (standing fresh 0) (sym (absorb-fits n S beginning [] (omega (arith, none)) some))
    where
      none : length (beginning.held ++ []) ≡ 0
      none = omega (arith, length-append beginning.held [], opened-held C (lawful-at 1) B M K (declared_at p d))

  -- the end
  pub stood-tag : (x : Bits) → (p ≡ 3 → declared_at p d ≡ length x) → tag_in (stood x) ≡ tag_of C B M K A.m x
  unfolding tag_in state_in stood standing fresh_of tag_of fed
  stood-tag x h =
      ap (λ (k : Keys). (finish (steps C B k).out (complete n (length x)) A.m (absorb n (steps C B k).out (state_in (stood x)) (suffix M n (length x)))).out) (ap (λ (r : Run Keys). r.out) (given-keys A.master a s))
      ∙ closes 1 a p K A.m (length x) (after x) (reached x)
      ∙ ap (λ (t : State). (closed C B M K A.m (length x) (fed C B M K t x)).out) (opened-alike B K p (declared_at p d) (length x) h)
      ∙ ap (λ (r : Run Bits). r.out) (one_piece C (lawful-at 1) B M K A.m x)

  pub stood-calls : (x : Bits) → (row B).least ≤ block_count M n (length x) → calls_in (stood x) ≡ length (mac_from C B M (unpacked A s) A.m x).calls
  unfolding calls_in stood standing fresh_of
  stood-calls x h =
      let q = ap (block_count M n) (length-zeros (length x)) in
      from-count C B M (unpacked A (given_of s)) A.m (zeros (length x)) (lawful-at 1) (omega (arith, h, q))
      ∙ ap₂ (λ (r : Run Keys) (k : ℕ). length r.calls + (k + (row B).further)) (given-keys A.master a s) q
      ∙ sym (from-count C B M (unpacked A s) A.m x (lawful-at 1) h)
