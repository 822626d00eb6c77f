-- What an agreement makes of the bytes of the keys, and the faults of the two.
-- Assumes nothing.
use Rattle.std.specs.Prelude.{List, ℕ, length}
use Rattle.bits.specs.Choice.{Fault}
use Rattle.mac.specs.Run.{Run}
use Rattle.mac.specs.Algorithm.{Keys}
use Rattle.keys.specs.Given.{unpack_of}
use Rattle.settings.specs.Faults.{settings_faults}
use Rattle.settings.specs.declared.Agreement.{Agreement}

-- unpacking them, with its calls
abbrev pub unpacked : Agreement → List ℕ → Run Keys
unpacked A s = unpack_of A.master A.algorithm s

-- the keys in use
abbrev pub in_use : Agreement → List ℕ → Keys
in_use A s = (unpacked A s).out

-- 1 to 5, in this order
abbrev pub agreement_faults : Agreement → List ℕ → List Fault
agreement_faults A s = settings_faults A (length s) (in_use A s)
