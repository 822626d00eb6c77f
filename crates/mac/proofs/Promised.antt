-- What is promised of a cipher, in one record, and that every lawful cipher has it, at its own width: the number of calls, that a
-- session gives the tag of the joined bits, and demand 3, in bits and in tag bytes.
-- Assumes nothing.
use mathlib.Core.Path.{◌≡◌, sym, ap, ◌∙◌}
use mathlib.Core.List.{List}
use Prim.Native.Nat.{ℕ, suc, ◌+◌, ◌*◌, ◌≤◌, ◌<◌}
use native.Mathlib.Omega.{arith}
use lib.ListN.{length, get_or}
use Rattle.bits.specs.Str.{Bits, bytes_bits}
use Rattle.bits.proofs.Packed.{length-bytes_bits}
use Rattle.cipher.specs.Cipher.{Cipher, Lawful}
use Rattle.cipher.specs.Ciphers.{cipher_at}
use Rattle.cipher.proofs.Laws.{lawful-at}
use Rattle.mac.specs.Padding.{Method, block_count}
use Rattle.mac.specs.Algorithm.{Algorithm, row, Keys}
use Rattle.mac.specs.Tag.{mac, calls_of, tag_bytes}
use Rattle.mac.specs.Session.{joined, opened, fed_all, closed}
use Rattle.mac.proofs.Calls.{calls_count}
use Rattle.mac.proofs.OneBlock.{Apart, Exactly, refilled, full, OneBlockDiffers, OneFilling, one-block-differs, one-filling, tag-long}
use Rattle.mac.proofs.TagBytes.{tag_bytes-inj, tag_bytes-bytes_bits}
use Rattle.mac.proofs.Absorbing.{session}

module _ (C : Cipher) (A : Algorithm) (M : Method) (K : Keys) where
  abbrev n : ℕ
  n = C.n

  -- the bytes of the full tag
  abbrev pub full_bytes : Bits → List ℕ
  full_bytes x = tag_bytes (full C A M K x)

  pub record Promised : Type 0 where
    pub calls : (m : ℕ) (x : Bits) → (row A).least ≤ block_count M n (length x) → length (calls_of C A M K m x) ≡ block_count M n (length x) + (row A).further
    pub session : (m : ℕ) (xs : List Bits) → closed C A M K m (length (joined xs)) (fed_all C A M K (opened C A M K (length (joined xs))) xs) ≡ mac C A M K m (joined xs)
    -- demand 3 (a) and (b)
    pub differs : OneBlockDiffers C A M K
    pub fills : OneFilling C A M K
    -- and in tag bytes: different bytes, and for each tag of so many bytes exactly one filling
    pub differs-bytes : (j : ℕ) (x y : Bits) → Apart n j x y → ¬ (x ≡ y) → ¬ (full_bytes x ≡ full_bytes y)
    pub fills-bytes : (j : ℕ) (x : Bits) → suc j * n ≤ length x → (t : List ℕ) → 8 * length t ≡ n → ((i : ℕ) → get_or t i 0 < 256)
        → Exactly n (λ b. full_bytes (refilled n j x b)) t

  module _ (L : Lawful C) where
    tag-inj : (x y : Bits) → full_bytes x ≡ full_bytes y → full C A M K x ≡ full C A M K y
    tag-inj x y = tag_bytes-inj _ _ (long x ∙ sym (long y))
      where
        long : (z : Bits) → length (full C A M K z) ≡ n
        long z = tag-long C L A M K n z (omega arith)

    pub promised : Promised
    promised = record {
      calls = calls_count C L A M K;
      session = session C L A M K;
      differs = one-block-differs C L A M K;
      fills = one-filling C L A M K;
      differs-bytes = λ j x y h ne e. one-block-differs C L A M K j x y h ne (tag-inj x y e);
      fills-bytes = λ j x h t ht fit.
          let whole : length (bytes_bits t) ≡ n = length-bytes_bits t ∙ ht in
          let one : Exactly n (λ b. full C A M K (refilled n j x b)) (bytes_bits t) = one-filling C L A M K j x h (bytes_bits t) whole in
          let back = tag_bytes-bytes_bits t fit in
          record {
            filling = one.filling;
            long = one.long;
            fits = ap tag_bytes one.fits ∙ back;
            only = λ b hb e. one.only b hb (tag_bytes-inj _ _ (tag-long C L A M K n _ (omega arith) ∙ sym whole) (e ∙ sym back));
          };
    }

-- of the ciphers that have a number
pub promised-at : (c : ℕ) (A : Algorithm) (M : Method) (K : Keys) → Promised (cipher_at c) A M K
promised-at c A M K = promised (cipher_at c) A M K (lawful-at c)
