-- What holds of a cipher by its number: it is lawful, its width is so many whole bytes that sixteen hold, enciphering under a key's
-- round keys is enciphering under the key, and under them backwards it is deciphering; and number 1 has blocks and keys of 128 bits.
-- Nothing else is known of a cipher above this crate but where an example is computed.
-- Assumes nothing.
use mathlib.Core.Path.{◌≡◌, refl, sym, ap, ◌∙◌}
use mathlib.Core.List.{List, [], ◌∷◌, ◌++◌, append-nil, flat_map}
use Prim.Native.Nat.{ℕ, ◌*◌}
use native.Mathlib.Omega.{arith}
use lib.ListN.{length, take}
use lib.Seq.{length-take-le, take_all}
use Rattle.bits.specs.Str.{Bits, bits_n, bytes_bits, words, xor_b, filled}
use Rattle.bits.proofs.Packed.{length-bytes_bits}
use Rattle.bits.proofs.Strings.{length-xor_b, filled-all}
use Rattle.sm4.specs.Cipher.{quad, flat, four, enc, dec, encrypted, decrypted}
use Rattle.sm4.proofs.Laws.{long-words}
use Rattle.sm4.proofs.Inverse.{flat_loaded, length-flat, length-enc, length-dec, length-encrypted, length-decrypted, decrypted-encrypted, encrypted-decrypted}
use Rattle.cipher.specs.Cipher.{Lawful}
use Rattle.cipher.specs.Ciphers.{sm4, cipher_at, round_keys_at, backwards_at, enc_at, dec_at, words_bits}
use Rattle.cipher.proofs.Widths.{Width, take-filled, length-first}

pub lawful-sm4 : Lawful sm4
lawful-sm4 = record {
  wide = omega arith;
  encrypt-long = length-encrypted;
  decrypt-long = length-decrypted;
  decrypt-encrypt = decrypted-encrypted;
  encrypt-decrypt = encrypted-decrypted;
}

-- number 1 is SM4; above this crate its width and that of its keys are taken from here
pub sm4-width : (cipher_at 1).n ≡ 128
unfolding cipher_at
sm4-width = refl

pub sm4-key : (cipher_at 1).key_width ≡ 128
unfolding cipher_at
sm4-key = refl

-- ---- four words

pub flat-words : (x : List ℕ) → length x ≡ 4 → flat (four (words x)) ≡ words_bits x
unfolding flat four words words_bits flat_map
flat-words [] h = absurd (omega arith)
flat-words (a ∷ []) h = absurd (omega arith)
flat-words (a ∷ b ∷ []) h = absurd (omega arith)
flat-words (a ∷ b ∷ c ∷ []) h = absurd (omega arith)
flat-words (a ∷ b ∷ c ∷ d ∷ []) h = ap (λ (w : Bits). bits_n 32 a ++ (bits_n 32 b ++ (bits_n 32 c ++ w))) (sym (append-nil (bits_n 32 d)))
flat-words (a ∷ b ∷ c ∷ d ∷ e ∷ x) h = absurd (omega arith)

pub length-words_bits : (x : List ℕ) → length x ≡ 4 → length (words_bits x) ≡ 128
length-words_bits x h = ap length (sym (flat-words x h)) ∙ length-flat _ (long-words x h)

-- ---- at 128 bits all of a block count, and nothing is filled up

module _ (b : List ℕ) (h : length b ≡ 16) where
  pub all_bytes : take 128 (bytes_bits b) ≡ bytes_bits b
  all_bytes = take_all 128 (bytes_bits b) (omega (arith, length-bytes_bits b))

  pub filled_bytes : filled 128 (bytes_bits b) ≡ bytes_bits b
  filled_bytes = filled-all 128 (bytes_bits b) (omega (arith, length-bytes_bits b))

  module _ (ks : List Bits) where
    pub filled_enc : filled 128 (enc ks (bytes_bits b)) ≡ enc ks (bytes_bits b)
    filled_enc = filled-all 128 _ (length-enc ks (bytes_bits b) (omega (arith, length-bytes_bits b)))

    pub filled_dec : filled 128 (dec ks (bytes_bits b)) ≡ dec ks (bytes_bits b)
    filled_dec = filled-all 128 _ (length-dec ks (bytes_bits b) (omega (arith, length-bytes_bits b)))

module _ (x : List ℕ) (h : length x ≡ 4) where
  pub all_words : take 128 (words_bits x) ≡ words_bits x
  all_words = take_all 128 (words_bits x) (omega (arith, length-words_bits x h))

  pub filled_words : filled 128 (words_bits x) ≡ words_bits x
  filled_words = filled-all 128 (words_bits x) (length-words_bits x h)

  pub filled_absorb : (ks : List Bits) (part : List ℕ) → length part ≡ 16 → filled 128 (enc ks (xor_b (bytes_bits part) (words_bits x))) ≡ enc ks (xor_b (bytes_bits part) (words_bits x))
  filled_absorb ks part e =
      let long : length (bytes_bits part) ≡ 128 = omega (arith, length-bytes_bits part) in
      filled-all 128 _ (length-enc ks _ (length-xor_b _ _ (long ∙ sym (length-words_bits x h)) ∙ long))

  pub loaded : (b : List ℕ) → length b ≡ 16 → four (words x) ≡ quad (bytes_bits b) → words_bits x ≡ bytes_bits b
  loaded b e p = sym (flat-words x h) ∙ flat_loaded x b e p

pub ruleset whole_blocks = (all_bytes, filled_bytes, filled_enc, filled_dec, all_words, filled_words, filled_absorb, flat-words, loaded)

-- ---- a cipher by its number

module _ (c : ℕ) where
  abbrev n : ℕ
  n = (cipher_at c).n

  pub lawful-at : Lawful (cipher_at c)
  unfolding cipher_at
  lawful-at = lawful-sm4

  pub width-at : Width n
  unfolding cipher_at
  width-at = record { bytes = 16; whole = refl; some = omega arith; fits = omega arith }

  -- under a key, and under its round keys
  pub encrypt-at : (k : Bits) → (cipher_at c).encrypt k ≡ enc_at c (round_keys_at c k)
  unfolding cipher_at round_keys_at enc_at encrypted
  encrypt-at k = refl

  pub decrypt-at : (k : Bits) → (cipher_at c).decrypt k ≡ dec_at c (round_keys_at c k)
  unfolding cipher_at round_keys_at dec_at decrypted
  decrypt-at k = refl

  module _ (rks : List Bits) where
    -- there under the round keys backwards is back under them
    pub enc-backwards : enc_at c (backwards_at c rks) ≡ dec_at c rks
    unfolding enc_at dec_at backwards_at dec
    enc-backwards = refl

    length-enc_at : (w : Bits) → length w ≡ n → length (enc_at c rks w) ≡ n
    unfolding cipher_at enc_at
    length-enc_at = length-enc rks

    length-dec_at : (w : Bits) → length w ≡ n → length (dec_at c rks w) ≡ n
    unfolding cipher_at dec_at
    length-dec_at = length-dec rks

    -- what the code's answers say of the first n bits
    module _ (b r : List ℕ) (h : length b ≡ 16) where
      pub first-enc : bytes_bits r ≡ filled 128 (enc_at c rks (take n (bytes_bits b))) → take n (bytes_bits r) ≡ enc_at c rks (take n (bytes_bits b))
      first-enc e = ap (take n) e ∙ take-filled n _ (length-enc_at (take n (bytes_bits b)) (length-first n b width-at h))

      pub first-dec : bytes_bits r ≡ filled 128 (dec_at c rks (take n (bytes_bits b))) → take n (bytes_bits r) ≡ dec_at c rks (take n (bytes_bits b))
      first-dec e = ap (take n) e ∙ take-filled n _ (length-dec_at (take n (bytes_bits b)) (length-first n b width-at h))

  -- and in words
  module _ (h : List ℕ) (words-4 : length h ≡ 4) where
    value-long : length (take n (words_bits h)) ≡ n
    value-long = length-take-le n (words_bits h) (omega (arith, length-words_bits h words-4, width-at))

    pub first_store : (r : List ℕ) → bytes_bits r ≡ filled 128 (take n (words_bits h)) → take n (bytes_bits r) ≡ take n (words_bits h)
    first_store r e = ap (take n) e ∙ take-filled n (take n (words_bits h)) value-long

    pub first-absorb : (rks : List Bits) (part r : List ℕ) → 8 * length part ≡ n → words_bits r ≡ filled 128 (enc_at c rks (xor_b (bytes_bits part) (take n (words_bits h))))
        → take n (words_bits r) ≡ enc_at c rks (xor_b (bytes_bits part) (take n (words_bits h)))
    first-absorb rks part r whole e =
        let long = length-bytes_bits part ∙ whole in
        ap (take n) e ∙ take-filled n _ (length-enc_at rks _ (length-xor_b (bytes_bits part) (take n (words_bits h)) (long ∙ sym value-long) ∙ long))

  pub first_load : (b r : List ℕ) → length b ≡ 16 → words_bits r ≡ filled 128 (take n (bytes_bits b)) → take n (words_bits r) ≡ take n (bytes_bits b)
  first_load b r h e = ap (take n) e ∙ take-filled n (take n (bytes_bits b)) (length-first n b width-at h)
