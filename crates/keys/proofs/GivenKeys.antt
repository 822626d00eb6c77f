-- The bytes that a record keeps make the same keys as the bytes that were given (`given-keys`). A master that is given alone makes K and
-- K' (`alone-makes`), and only the first sixteen bytes are read (`master-alone`). Two calls are made under a master, else none
-- (`unpack-calls`). K' and K'' are never the same, whatever the bytes, under a master or without (`never-same`).
-- Assumes nothing.
use mathlib.Core.Path.{◌≡◌, refl, sym, ap, ap₂, ◌∙◌}
use mathlib.Core.Bool.{Bool, true, false, ◌||◌, not}
use mathlib.Core.List.{List, ◌++◌}
use Prim.Native.Nat.{ℕ}
use native.Mathlib.Omega.{arith}
use lib.Dec.{eqb}
use borrow.Author.Tests.{eq-eqb}
use lib.ListN.{length, drop, replicate, length-append, length-replicate}
use lib.Seq.{length-take-le, take_all, take_at, drop_at}
use Rattle.bits.specs.Choice.{pick}
use Rattle.bits.specs.Str.{bytes_bits}
use Rattle.bits.proofs.Packed.{length-bytes_bits}
use Rattle.block.specs.Block.{front}
use Rattle.block.proofs.Fronts.{front-full}
use Rattle.cipher.specs.Ciphers.{cipher_at}
use Rattle.cipher.proofs.Laws.{lawful-at, width-at}
use Rattle.mac.specs.Algorithm.{algorithm_at, row, keys}
use Rattle.mac.specs.Run.{◌giving◌}
use Rattle.mac.specs.Derive.{derived, keys_used}
use Rattle.mac.proofs.Derive.{used-calls, second-third-differ}
use Rattle.keys.specs.Given.{unpack_of, given_of}
use Rattle.keys.specs.Faults.{key_bytes, master_wrong, key_bytes_wrong}

length_front : (s : List ℕ) → length (front s) ≡ 16
unfolding front
length_front s = length-take-le 16 (s ++ replicate 16 0) (omega (arith, length-append s (replicate {A = ℕ} 16 0), length-replicate {A = ℕ} 16 0))

pub given-keys : (master : Bool) (a : ℕ) (s : List ℕ) → unpack_of master a (given_of s) ≡ unpack_of master a s
unfolding unpack_of given_of
given-keys master a s = ap₂ (λ (x y : List ℕ). keys_used (cipher_at 1) master (algorithm_at a) (bytes_bits x) (bytes_bits y)) first second
  where
    b : List ℕ
    b = front s

    c : List ℕ
    c = front (drop 16 s)

    first : front (b ++ c) ≡ b
    first = front-full (b ++ c) (omega (arith, length-append b c, length_front s)) ∙ take_at b c 16 (length_front s)

    second : front (drop 16 (b ++ c)) ≡ c
    second =
        ap front (drop_at b c 16 (length_front s)) ∙ front-full c (omega (arith, length_front (drop 16 s))) ∙ take_all 16 c (omega (arith, length_front (drop 16 s)))

-- where some number of bytes is right, the needed one is
pub needed-bytes : (master : Bool) (a n : ℕ) → key_bytes_wrong master a n ≡ false → key_bytes_wrong master a (key_bytes master a) ≡ false
unfolding key_bytes_wrong
needed-bytes master a n e = go (master_wrong master a) e
  where
    go : (b : Bool) → b || not (eqb n (key_bytes master a)) ≡ false → b || not (eqb (key_bytes master a) (key_bytes master a)) ≡ false
    go true e = e
    go false e = ap not (eq-eqb (key_bytes master a) (key_bytes master a) refl)

-- two calls under a master, else none
pub unpack-calls : (master : Bool) (a : ℕ) (s : List ℕ) → length (unpack_of master a s).calls ≡ pick master 2 0
unfolding unpack_of
unpack-calls master a s = used-calls (cipher_at 1) master (algorithm_at a) (bytes_bits (front s)) (bytes_bits (front (drop 16 s)))

pub never-same : (master : Bool) (a : ℕ) (s : List ℕ)
    → let K = (unpack_of master a s).out in
    ¬ (K.k' ≡ K.k'')
unfolding unpack_of
never-same master a s =
    let second = front (drop 16 s) in
    second-third-differ (cipher_at 1) (lawful-at 1) (omega (arith, width-at 1)) master (algorithm_at a) (bytes_bits (front s)) (bytes_bits second)
    (omega (arith, length-bytes_bits second, length_front (drop 16 s)))

-- where the master is given alone
module _ (a : ℕ) (alone : (row (algorithm_at a)).third ≡ false) where
  pub alone-makes : (s : List ℕ) → unpack_of true a s ≡ (derived (cipher_at 1) (bytes_bits (front s)) giving λ d. keys d.0 d.1)
  unfolding unpack_of keys_used pick
  alone-makes s = rw alone refl

  pub master-alone : (s t : List ℕ) → front s ≡ front t → unpack_of true a s ≡ unpack_of true a t
  master-alone s t same = alone-makes s ∙ ap (λ (b : List ℕ). derived (cipher_at 1) (bytes_bits b) giving λ d. keys d.0 d.1) same ∙ sym (alone-makes t)
