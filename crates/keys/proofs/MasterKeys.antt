-- What the code derives from a master is what the definition does (`derived-key`): a counter enciphered under the master's round keys.
-- And unpacking in each of its three ways: keys as they were given (`as-given`), K and then the master (`second-master`), the master
-- alone (`first-master`).
-- Assumes nothing.
use mathlib.Core.Path.{◌≡◌, sym, ap, ap₂, ◌∙◌}
use mathlib.Core.Bool.{Bool, true, false}
use mathlib.Core.List.{List}
use Prim.Native.Nat.{ℕ}
use native.Mathlib.Omega.{arith}
use lib.ListN.{length, take, drop}
use lib.Seq.{take_all}
use Rattle.bits.specs.Choice.{pick}
use Rattle.bits.specs.Str.{Bits, bits_n, bytes_bits}
use Rattle.bits.proofs.Packed.{length-bytes_bits}
use Rattle.bits.proofs.Numbers.{length-bits_n}
use Rattle.block.specs.Block.{front, filled_block}
use Rattle.cipher.specs.Ciphers.{cipher_at, round_keys_at, enc_at}
use Rattle.cipher.proofs.Widths.{take-filled}
use Rattle.cipher.proofs.Laws.{sm4-width, sm4-key, encrypt-at, first-enc}
use Rattle.mac.specs.Algorithm.{algorithm_at, row, keys}
use Rattle.mac.specs.Derive.{derived, keys_used}
use Rattle.keys.specs.Given.{unpack_of, key_bits, Unpacks}
use Rattle.keys.specs.declared.Unpacked.{Unpacked}

abbrev n : ℕ
n = (cipher_at 1).n

-- all bits of sixteen bytes
whole : (b : List ℕ) (k : ℕ) → k ≡ 128 → length b ≡ 16 → take k (bytes_bits b) ≡ bytes_bits b
whole b k e h = take_all k (bytes_bits b) (omega (arith, length-bytes_bits b))

pub derived-key : (master : List ℕ) (rks : List Bits) (i : ℕ) (counter made : List ℕ)
    → length master ≡ 16 → length counter ≡ 16 → length made ≡ 16
    → rks ≡ round_keys_at 1 (take (cipher_at 1).key_width (bytes_bits master))
    → bytes_bits counter ≡ filled_block (bits_n n i)
    → bytes_bits made ≡ filled_block (enc_at 1 rks (take n (bytes_bits counter)))
    → bytes_bits made ≡ (cipher_at 1).encrypt (bytes_bits master) (bits_n n i)
derived-key master rks i counter made lm lc ld scheduled number e =
    sym (whole made n sm4-width ld)
    ∙ first-enc 1 rks counter made lc e
    ∙ ap₂ (enc_at 1) (scheduled ∙ ap (round_keys_at 1) (whole master (cipher_at 1).key_width sm4-key lm)) (ap (take n) number ∙ take-filled n (bits_n n i) (length-bits_n n i))
    ∙ ap (λ (f : Bits → Bits). f (bits_n n i)) (sym (encrypt-at 1 (bytes_bits master)))

-- ---- unpacking: the first and the second key that were given, and what came of them

module _ (a : ℕ) (s first second : List ℕ) (ef : first ≡ front s) (es : second ≡ front (drop 16 s)) (u : Unpacked) (master : Bool) where
  pub as-given : master ≡ false → key_bits u.keys ≡ keys (bytes_bits first) (bytes_bits second) → u.calls ≡ 0 → Unpacks u (unpack_of master a s)
  unfolding unpack_of keys_used
  as-given m e c = rw (m, sym ef, sym es) (e, c)

  module _ (m : master ≡ true) (two : u.calls ≡ 2) where
    -- the keys that a master makes
    abbrev made : List ℕ → Bits × Bits
    made b = (derived (cipher_at 1) (bytes_bits b)).out

    pub second-master : (row (algorithm_at a)).third ≡ true → key_bits u.keys ≡ record { k = bytes_bits first; k' = (made second).0; k'' = (made second).1 } → Unpacks u (unpack_of master a s)
    unfolding unpack_of keys_used derived pick
    second-master t e = rw (m, t, sym ef, sym es) (e, two)

    pub first-master : (row (algorithm_at a)).third ≡ false → key_bits u.keys ≡ keys (made first).0 (made first).1 → Unpacks u (unpack_of master a s)
    unfolding unpack_of keys_used derived pick
    first-master t e = rw (m, t, sym ef) (e, two)
