-- That the promises hang on no width and on no cipher of the library: a toy of 64 bits, good for no secret, is lawful, so it has
-- them. It stands in proofs alone, and no program is made from it.
-- Assumes nothing.
use mathlib.Core.Path.{◌≡◌, sym, ap, ◌∙◌}
use mathlib.Core.List.{◌++◌}
use Prim.Native.Nat.{ℕ, suc, ◌*◌, ◌≤◌}
use native.Mathlib.Omega.{arith}
use lib.ListN.{length, take, length-append}
use lib.Seq.{length-take-le}
use Rattle.bits.specs.Str.{Bits, zeros, xor_b, rotl, rotr}
use Rattle.bits.proofs.Strings.{length-zeros, length-xor_b, xor_b-twice, length-rotl, length-rotr, rotr-rotl, rotl-rotr}
use Rattle.cipher.specs.Cipher.{Cipher, Lawful}
use Rattle.mac.specs.Padding.{Method}
use Rattle.mac.specs.Algorithm.{Algorithm, Keys}
use Rattle.mac.specs.Lost.{lost_block}
use Rattle.mac.proofs.OneBlock.{one-filling}
use Rattle.mac.proofs.LostFilling.{lost-filling}
use Rattle.mac.proofs.Promised.{Promised, promised}

-- the first 64 bits of a key with zeros after it
abbrev mask : Bits → Bits
mask k = take 64 (k ++ zeros 64)

length-mask : (k : Bits) → length (mask k) ≡ 64
length-mask k = length-take-le 64 (k ++ zeros 64) (omega (arith, length-append k (zeros 64), length-zeros 64))

-- the key put in by xor, and a turn by one bit
abbrev pub toy : Cipher
toy = record {
  n = 64;
  key_width = 64;
  encrypt = λ k b. rotl 1 (xor_b b (mask k));
  decrypt = λ k b. xor_b (rotr 1 b) (mask k);
  poly = 0x1b;
}

module _ (k b : Bits) (h : length b ≡ 64) where
  same : length b ≡ length (mask k)
  same = h ∙ sym (length-mask k)

  mixed-long : length (xor_b b (mask k)) ≡ 64
  mixed-long = length-xor_b b (mask k) same ∙ h

  turned-long : length (rotr 1 b) ≡ 64
  turned-long = length-rotr 1 b ∙ h

  there-long : length (toy.encrypt k b) ≡ 64
  there-long = length-rotl 1 (xor_b b (mask k)) ∙ mixed-long

  back_long : length (toy.decrypt k b) ≡ 64
  back_long = length-xor_b (rotr 1 b) (mask k) (turned-long ∙ sym (length-mask k)) ∙ turned-long

  there_and_back : toy.decrypt k (toy.encrypt k b) ≡ b
  there_and_back = ap (λ (w : Bits). xor_b w (mask k)) (rotr-rotl 1 (xor_b b (mask k)) (omega (arith, mixed-long))) ∙ xor_b-twice b (mask k) same

  back-and-there : toy.encrypt k (toy.decrypt k b) ≡ b
  back-and-there = ap (rotl 1) (xor_b-twice (rotr 1 b) (mask k) (turned-long ∙ sym (length-mask k))) ∙ rotl-rotr 1 b (omega arith)

pub lawful-toy : Lawful toy
lawful-toy = record {
  wide = omega arith;
  encrypt-long = there-long;
  decrypt-long = back_long;
  decrypt-encrypt = there_and_back;
  encrypt-decrypt = back-and-there;
}

-- its lost blocks are worked out as well
pub toy-lost : (A : Algorithm) (M : Method) (K : Keys) (j : ℕ) (x : Bits) (fits : suc j * 64 ≤ length x) (t : Bits) (ht : length t ≡ 64)
    → lost_block toy A M K j x t ≡ (one-filling toy lawful-toy A M K j x fits t ht).filling
toy-lost = lost-filling toy lawful-toy

pub toy-promised : (A : Algorithm) (M : Method) (K : Keys) → Promised toy A M K
toy-promised A M K = promised toy A M K lawful-toy
