-- `wide` makes what its type asks for: antt computes all 768 entries by the rule, and the code's constant is these, number for number.
-- Assumes nothing.
use mathlib.Core.Path.{refl}
use mathlib.Core.List.{zip_with}
use mathlib.Core.Bool.{xor}
use Rattle.bits.specs.Str.{digit, bits_n, num_of, zeros, xor_b, rotl}
use Rattle.sm4.specs.Constants.{sbox}
use Rattle.sm4.specs.Cipher.{Sbox, L}
use Rattle.sm4.specs.Table.{placed, share, entry, entries, wide}
use Rattle.sm4.proofs.wide.Goals as goal

pub invariant_of-result : goal.invariant_of-result
unfolding wide entries entry share placed Sbox sbox L rotl xor_b zip_with xor zeros bits_n digit num_of
invariant_of-result c = refl

pub returns : goal.returns
returns c = invariant_of-result c
