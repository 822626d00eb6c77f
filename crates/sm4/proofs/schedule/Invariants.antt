-- `schedule` meets its contract. The loop's invariant: the walk so far, under the constants (Walk.antt), and what is written are the
-- words made by it.
-- Assumes nothing.
use mathlib.Core.Path.{◌≡◌}
use lib.ListN.{length, take}
use Rattle.bits.specs.Str.{words}
use Rattle.sm4.specs.Constants.{CKs}
use Rattle.sm4.specs.Cipher.{T', made}
use Rattle.sm4.specs.Split.{joined}
use Rattle.sm4.proofs.Walk.{Walked}
use Rattle.sm4.proofs.schedule.Given as goal

abbrev pub invariant-loop-i : goal.invariant-loop-i
invariant-loop-i l =
    Walked T' (CKs 32 0) l.initial.s l.s l.i × (length l.word-items ≡ 32) × (words (take l.i l.word-items) ≡ made T' (joined l.initial.s) (take l.i (CKs 32 0)))
