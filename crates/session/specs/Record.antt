-- A session's record, the code's own: what it stands for among the definition's states (crate mac), and when it counts as closed.
-- Assumes nothing.
use Rattle.std.specs.Prelude.{Bool, true, false, not, ◌&&◌, List, [], ◌∷◌, ℕ, ◌%◌, replicate, eqb, ltb}
use Rattle.bits.specs.Choice.{pick, Fault, ◌given◌, first_of}
use Rattle.bits.specs.Str.{Bits, bytes_bits, leftmost, same_b}
use Rattle.block.specs.Block.{filled_block}
use Rattle.cipher.specs.Ciphers.{cipher_at}
use Rattle.mac.specs.Run.{Run}
use Rattle.mac.specs.Algorithm.{Keys}
use Rattle.mac.specs.Session.{State}
use Rattle.keys.specs.Faults.{key_bytes}
use Rattle.settings.specs.InUse.{unpacked}
use Rattle.settings.specs.Faults.{settings_refusal}
use Rattle.settings.specs.declared.Agreement.{Agreement}
use Rattle.message.specs.Faults.{too_many_bits}
use Rattle.chain.specs.Chain.{held_bits, state_at, hold_of}
use Rattle.session.specs.declared.Phase.{Phase}
use Rattle.session.specs.declared.Phase.TheVariants.{Closed, Edge, Part}
use Rattle.session.specs.declared.Purpose.{Purpose}
use Rattle.session.specs.declared.Purpose.TheVariants.{Making, Checking}
use Rattle.session.specs.declared.Session.{Session}

-- closed, and every other field zero, the purpose making
unfoldable pub cleared : Session
cleared = record {
  phase = Closed;
  purpose = Making;
  agreement = record { algorithm = 0; padding = 0; m = 0; master = false };
  declared = 0;
  total = 0;
  keys = replicate 32 0;
  hold = record { value = replicate 16 0; held = replicate 16 0 };
  expected = replicate 16 0;
}

-- ---- what it stands for

-- unpacking the bytes of the keys, which it keeps as they were given, and the keys in use
abbrev pub unpacked_in : Session → Run Keys
unpacked_in s = unpacked s.agreement s.keys

abbrev pub keys_in : Session → Keys
keys_in s = (unpacked_in s).out

unfoldable pub state_in : Session → State
state_in s = state_at (cipher_at 1).n s.agreement.padding s.total s.hold

-- the phase after l bits
unfoldable pub phase_at : ℕ → Phase
phase_at l = pick (eqb (l % 8) 0) Edge (Part (l % 8))

-- the record of s that stands for t after l bits
unfoldable pub standing : Session → ℕ → State → Session
standing s l t = record s { phase = phase_at l; total = l; hold = hold_of t }

-- ---- what it is for

-- the record of s for this purpose, with this tag expected
unfoldable pub aimed : Purpose → List ℕ → Session → Session
aimed p e s = record s { purpose = p; expected = e }

unfoldable pub is_check : Purpose → Bool
is_check Making = false
is_check Checking = true

-- ---- when it counts as closed (01, "Numbered answers"); its purpose and the expected tag have no part in it

-- its phase is closed, or its total does not fit it
unfoldable pub phase_unfit : Phase → ℕ → Bool
phase_unfit Closed l = true
phase_unfit Edge l = not (eqb (l % 8) 0)
phase_unfit (Part n) l = pick (eqb n 0) true (not (eqb (l % 8) n))

-- a start would refuse its agreement or keys (its key bytes are as many as it needs)
abbrev pub settings_unsound : Agreement → Keys → Bool
settings_unsound A K = not (eqb (settings_refusal A (key_bytes A.master A.algorithm) K) 0)

-- under padding 3, a declared length of d bits is too long
abbrev pub declared_too_long : ℕ → ℕ → Bool
declared_too_long p d = eqb p 3 && too_many_bits d

-- under padding 3, l bits pass d
abbrev pub passes_declared : ℕ → ℕ → ℕ → Bool
passes_declared p d l = eqb p 3 && ltb d l

-- a bit of the waiting block past the n bits it holds is set
abbrev pub stray_bit : ℕ → Bits → Bool
stray_bit n w = not (same_b (filled_block (leftmost n w)) w)

unfoldable pub closed_faults : Session → List Fault
closed_faults s =
    11 given phase_unfit s.phase s.total ∷
    11 given settings_unsound s.agreement (keys_in s) ∷
    11 given too_many_bits s.total ∷
    11 given declared_too_long s.agreement.padding s.declared ∷
    11 given passes_declared s.agreement.padding s.declared s.total ∷
    11 given stray_bit (held_bits (cipher_at 1).n s.total) (bytes_bits s.hold.held) ∷
    []

unfoldable pub counts_closed : Session → Bool
counts_closed s = not (eqb (first_of (closed_faults s)) 0)
