-- Eight tags of 000's annex A.2 to A.9, computed by the definition; two more stand in crate mac (`deciding`), for what is decided by them.
-- All 36 are run (crate test_cases). Under a master: the keys of A.7 are those that its K* makes, and a tag of algorithm 4.
-- Assumes nothing.
use mathlib.Core.Path.{◌≡◌, refl}
use mathlib.Core.Bool.{true, xor}
use mathlib.Core.List.{[], flat_map, zip_with}
use Prim.Native.Nat.{ℕ}
use Rattle.bits.specs.Choice.{pick}
use Rattle.bits.specs.Str.{Bits, bits_n, digit, num_of, bytes_bits, words, zeros, xor_b, rotl, rotr, leftmost, rightmost, shiftl, double, halves_flipped, every_second}
use Rattle.sm4.specs.Constants.{sbox, fk, ck, CK, CKs}
use Rattle.sm4.specs.Cipher.{quad, flat, four, Sbox, τ, L, L', T, T', F, round, rounds, made, R, enc, dec, round_keys, encrypted, decrypted}
use Rattle.mac.specs.Padding.{Method, method1, method2, method3, method4, complete, gap, one_gap, prefix, suffix, pad, D}
use Rattle.mac.specs.Algorithm.{Algorithm, alg1, alg2, alg3, alg4, alg5, alg6, alg7, alg8, Keys, keys, step, steps}
use Rattle.mac.specs.Tag.{some, H, G, mac, tag_of}
use Rattle.mac.specs.Derive as Derive
use Rattle.mac.specs.Derive.{keys_used}
use Rattle.cipher.specs.Ciphers.{sm4}
use Rattle.mac.proofs.Annex.{text1, text2, pair}

-- the keys of A.7, as printed there
abbrev pub derived : Keys
derived = keys (bits_n 128 0x4e595bf03f23bd10329baf5698e898ec) (bits_n 128 0xb3136c044e95482d4f652e694f2741cd)

abbrev tag : Algorithm → Method → Keys → ℕ → Bits → Bits
tag A M K m x = tag_of sm4 A M K m x

pub record Vectors : Type 0 where
  pub A2 : tag alg1 method3 pair 128 text2 ≡ bits_n 128 0x6a4a86f5b5e468dad27df25fb9d9be16
  pub A3 : tag alg2 method2 pair 128 text1 ≡ bits_n 128 0xe423e35599afd948aec50bdee838e9ea
  pub A4 : tag alg3 method1 pair 128 text2 ≡ bits_n 128 0xe32d99a689c0525960e18d53aa730f33
  pub A5 : tag alg4 method2 pair 128 text1 ≡ bits_n 128 0x7e1a9a5e0ef0947f25cb9485261c985c
  pub A6-incomplete : tag alg5 method4 pair 128 text2 ≡ bits_n 128 0x4738a6c760b280fc0c8a8af3886e9f5d
  pub A7 : tag alg6 method2 derived 128 text2 ≡ bits_n 128 0x60dd955ed0ca3d7a64227174dd98dd81
  pub A7-derived : (keys_used sm4 true alg6 pair.k []).out ≡ derived
  pub master-4 : tag alg4 method1 (keys_used sm4 true alg4 pair.k pair.k').out 64 text1 ≡ bits_n 64 0xdd64873eeb7c9605
  pub A8-incomplete : tag alg7 method4 pair 63 text2 ≡ bits_n 63 0x46fa2a5d83445a9
  pub A9-incomplete : tag alg8 method4 pair 128 text2 ≡ bits_n 128 0xa99d13013e892ee2c25be2daaa6c82e8

pub vectors : Vectors
unfolding Derive.derived keys_used tag_of mac steps step some H G D complete gap one_gap prefix suffix pad pick bytes_bits flat_map words bits_n digit num_of zeros xor_b zip_with xor rotl rotr leftmost rightmost shiftl double halves_flipped every_second quad flat four Sbox τ L L' T T' F round rounds made R enc dec round_keys encrypted decrypted sbox fk ck CK CKs
vectors = record {
  A2 = refl;
  A3 = refl;
  A4 = refl;
  A5 = refl;
  A6-incomplete = refl;
  A7 = refl;
  A7-derived = refl;
  master-4 = refl;
  A8-incomplete = refl;
  A9-incomplete = refl;
}
