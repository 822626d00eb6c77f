-- No second answer satisfies any public function's contract.
-- Assumes nothing.
use mathlib.Core.Path.{◌≡◌, refl}
use borrow.Author.Rules.{rules}
use Rattle.bits.specs.Once.{Unique}
use Rattle.bits.proofs.Same.{same, same_bytes, Bytes}
use Rattle.mac.specs.Run.{Run}
use Rattle.mac.specs.Algorithm.{Keys}
use Rattle.keys.specs.declared.KeyBlocks.{KeyBlocks}
use Rattle.keys.specs.declared.Unpacked.{Unpacked}
use Rattle.keys.specs.Given.{unpack_of, key_bits, Unpacks}
use Rattle.keys.proofs.kept.Kinds as kept-k
use Rattle.keys.proofs.kept.Reads as kept
use Rattle.keys.proofs.unpack.Kinds as unpack-k
use Rattle.keys.proofs.unpack.Reads as unpack
use Rattle.keys.proofs.bytes_of.Kinds as bytes-of-k
use Rattle.keys.proofs.bytes_of.Reads as bytes_of
use Rattle.keys.proofs.bytes_wrong.Kinds as bytes-wrong-k
use Rattle.keys.proofs.bytes_wrong.Reads as bytes-wrong
use Rattle.keys.proofs.same.Kinds as keys-same-k
use Rattle.keys.proofs.same.Reads as keys-same

-- three blocks of bytes
pub record Blocks (b : KeyBlocks) : Type 0 where
  pub first : Bytes 16 b.first
  pub second : Bytes 16 b.second
  pub third : Bytes 16 b.third

same_keys : {b c : KeyBlocks} → Blocks b → Blocks c → key_bits b ≡ key_bits c → b ≡ c
unfolding key_bits
same_keys {b} {c} x y e =
    let first = same_bytes 16 x.first y.first (λ i. (e i).k) refl in
    let second = same_bytes 16 x.second y.second (λ i. (e i).k') refl in
    let third = same_bytes 16 x.third y.third (λ i. (e i).k'') refl in
    λ i. record { first = first i; second = second i; third = third i }

pub kept-unique : Unique kept-k.ps kept-k.r kept.Asked kept.Learnt
kept-unique κs a g p x y = (same x.ensures y.ensures, refl)

-- what was unpacked is fixed by the run that it stands for
pub same-unpacked : {u v : Unpacked} (R : Run Keys) → Blocks u.keys → Blocks v.keys → Unpacks u R → Unpacks v R → u ≡ v
same-unpacked R x y e f =
    let keys = same_keys x y (same e.0 f.0) in
    let calls = same e.1 f.1 in
    λ i. record { keys = keys i; calls = calls i }

pub unpack-unique : Unique unpack-k.ps unpack-k.r unpack.Asked unpack.Learnt
unpack-unique κs a g p x y = (same-unpacked (unpack_of a.0 a.1.0 a.1.1.0.now) (search rules) (search rules) x.ensures y.ensures, refl)

pub bytes-of-unique : Unique bytes-of-k.ps bytes-of-k.r bytes_of.Asked bytes_of.Learnt
bytes-of-unique κs a g p x y = (same x.ensures y.ensures, refl)

pub bytes-wrong-unique : Unique bytes-wrong-k.ps bytes-wrong-k.r bytes-wrong.Asked bytes-wrong.Learnt
bytes-wrong-unique κs a g p x y = (same x.ensures y.ensures, refl)

pub same-unique : Unique keys-same-k.ps keys-same-k.r keys-same.Asked keys-same.Learnt
same-unique κs a g p x y = (same x.ensures y.ensures, refl)
