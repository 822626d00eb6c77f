-- What the purpose of a record and its expected tag have no part in: whether it counts as closed, what a piece does to it, its tag and its
-- calls, and the faults of its end but for the purpose itself. Each is the same for the record of any other purpose (`aimed`).
-- Assumes nothing.
use Rattle.std.proofs.Common.{◌≡◌, refl, Bool, List, ℕ}
use Rattle.bits.specs.Str.{Bits}
use Rattle.session.specs.declared.Purpose.{Purpose}
use Rattle.session.specs.declared.Session.{Session}
use Rattle.session.specs.Record.{state_in, standing, aimed, closed_faults, counts_closed}
use Rattle.session.specs.Calls.{fed_of, piece_faults, end_faults, tag_in, calls_in}

module _ (p : Purpose) (e : List ℕ) (s : Session) where
  pub aimed-closed : counts_closed (aimed p e s) ≡ counts_closed s
  unfolding counts_closed closed_faults aimed
  aimed-closed = refl

  pub aimed-fed : (x : Bits) → fed_of (aimed p e s) x ≡ aimed p e (fed_of s x)
  unfolding fed_of standing state_in aimed
  aimed-fed x = refl

  pub aimed-tag : tag_in (aimed p e s) ≡ tag_in s
  unfolding tag_in state_in aimed
  aimed-tag = refl

  pub aimed-calls : calls_in (aimed p e s) ≡ calls_in s
  unfolding calls_in aimed
  aimed-calls = refl

  pub aimed-piece : (c bits : ℕ) → piece_faults (aimed p e s) c bits ≡ piece_faults s c bits
  unfolding piece_faults counts_closed closed_faults aimed
  aimed-piece c bits = refl

  pub aimed-end : (other ten : Bool) → end_faults (aimed p e s) other ten ≡ end_faults s other ten
  unfolding end_faults counts_closed closed_faults aimed
  aimed-end other ten = refl
