-- Under algorithms 2 and 6 no master of sixteen bytes is refused (`master-sound`): the two keys that it makes always differ
-- (`derived-differ`). So what is said of calls under a master is said of something.
-- Assumes nothing.
use mathlib.Core.Path.{◌≡◌, refl, ap, ◌∙◌}
use mathlib.Core.Bool.{Bool, true, false, and-false}
use mathlib.Core.List.{List}
use Prim.Native.Nat.{ℕ}
use native.Mathlib.Omega.{arith}
use lib.ListN.{length}
use Rattle.bits.specs.Choice.{pick}
use Rattle.bits.specs.Str.{Bits, bytes_bits, same_b}
use Rattle.bits.proofs.Faults.{passed, done, clear_first}
use Rattle.bits.proofs.Strings.{same_b-false}
use Rattle.block.specs.Block.{front}
use Rattle.cipher.specs.Ciphers.{cipher_at}
use Rattle.cipher.proofs.Laws.{lawful-at, width-at}
use Rattle.mac.specs.Run.{Run}
use Rattle.mac.specs.Algorithm.{algorithm_at, row, Keys, keys}
use Rattle.mac.specs.Derive.{derived}
use Rattle.mac.proofs.Derive.{derived-differ}
use Rattle.keys.specs.Given.{unpack_of}
use Rattle.keys.proofs.GivenKeys.{alone-makes}
use Rattle.keys.specs.Faults.{key_bytes, master_wrong, key_bytes_wrong, keys_same}
use Rattle.settings.specs.InUse.{in_use}
use Rattle.settings.specs.Faults.{settings_faults, settings_refusal, algorithm_wrong, padding_wrong, size_wrong}
use Rattle.settings.specs.declared.Agreement.{Agreement}

module _ (A : Agreement) (s : List ℕ) (master : A.master ≡ true) (takes : (row (algorithm_at A.algorithm)).master ≡ true) (alone : (row (algorithm_at A.algorithm)).third ≡ false) (sixteen : length s ≡ 16) where
  not-four : key_bytes_wrong A.master A.algorithm (length s) ≡ false
  unfolding key_bytes_wrong master_wrong key_bytes pick
  not-four = rw (master, takes, alone, sixteen) refl

  -- the keys in use are the two that the master makes
  abbrev made : Bits × Bits
  made = (derived (cipher_at 1) (bytes_bits (front s))).out

  differ : same_b made.0 made.1 ≡ false
  differ = same_b-false made.0 made.1 (derived-differ (cipher_at 1) (lawful-at 1) (omega (arith, width-at 1)) (bytes_bits (front s)))

  used-is : in_use A s ≡ keys made.0 made.1
  used-is = ap (λ (b : Bool). (unpack_of b A.algorithm s).out) master ∙ ap (λ (r : Run Keys). r.out) (alone-makes A.algorithm alone s)

  not_five : keys_same A.algorithm (in_use A s) ≡ false
  unfolding keys_same
  not_five = ap (keys_same A.algorithm) used-is ∙ rw (alone, differ, and-false (row (algorithm_at A.algorithm)).differ) refl

  pub master-sound : algorithm_wrong A.algorithm ≡ false → padding_wrong A.algorithm A.padding ≡ false → size_wrong A.algorithm A.m ≡ false → settings_refusal A (length s) (in_use A s) ≡ 0
  unfolding settings_refusal settings_faults
  master-sound e1 e2 e3 = clear_first (passed e1 (passed e2 (passed e3 (passed not-four (passed not_five done)))))
