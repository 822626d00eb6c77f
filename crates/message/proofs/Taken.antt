-- A message that is not refused: what each of the tests 7 to 10 that found nothing says of it (`taken`).
-- Assumes nothing.
use mathlib.Core.Path.{◌≡◌, refl}
use mathlib.Core.Bool.{Bool, false}
use Prim.Native.Nat.{ℕ, ◌*◌, ◌≤◌}
use native.Mathlib.Omega.{arith}
use borrow.Author.Tests.{ltb-false, eqb-true, not-false}
use Rattle.bits.specs.Choice.{first_of}
use Rattle.bits.proofs.Faults.{Clear, passed, done, Every, all, with, Numbered, first-clear}
use Rattle.cipher.specs.Ciphers.{cipher_at}
use Rattle.mac.specs.Padding.{method_at, block_count}
use Rattle.mac.specs.Algorithm.{algorithm_at, row}
use Rattle.mac.specs.Tag.{bytes_for}
use Rattle.settings.specs.declared.Settings.{Settings}
use Rattle.message.specs.Faults.{too_few_blocks, message_faults}

pub record Taken (S : Settings) (c l : ℕ) (ten : Bool) : Type 0 where
  pub long : c ≡ bytes_for l
  pub holds : l ≤ 8 * c
  pub few : l ≤ 8388608
  pub enough : (row (algorithm_at S.algorithm)).least ≤ block_count (method_at S.padding) (cipher_at 1).n l
  pub room : ten ≡ false

-- what holds of 7 to 10 holds of their numbers
pub message-every : {P : ℕ → Type 0} → P 7 → P 8 → P 9 → P 10 → (S : Settings) (c l : ℕ) (ten : Bool) → Every P (message_faults S c l ten)
unfolding message_faults
message-every p7 p8 p9 p10 S c l ten = with p7 (with p8 (with p9 (with p10 all)))

pub message-numbered : (S : Settings) (c l : ℕ) (ten : Bool) → Numbered (message_faults S c l ten)
message-numbered S c l ten = message-every refl refl refl refl S c l ten

pub enough-held : (S : Settings) (l : ℕ) → too_few_blocks S l ≡ false → (row (algorithm_at S.algorithm)).least ≤ block_count (method_at S.padding) (cipher_at 1).n l
enough-held S l h = ltb-false _ _ h

pub clear-taken : (S : Settings) (c l : ℕ) (ten : Bool) → Clear (message_faults S c l ten) → Taken S c l ten
unfolding message_faults bytes_for
clear-taken S c l ten (passed e7 (passed e8 (passed e9 (passed e10 done)))) =
    let long = eqb-true c (bytes_for l) (not-false _ e7) in
    record { long = long; holds = omega arith; few = ltb-false 8388608 l e8; enough = enough-held S l e9; room = e10 }

pub taken : (S : Settings) (c l : ℕ) (ten : Bool) → first_of (message_faults S c l ten) ≡ 0 → Taken S c l ten
taken S c l ten e = clear-taken S c l ten (first-clear (message_faults S c l ten) (message-numbered S c l ten) e)
