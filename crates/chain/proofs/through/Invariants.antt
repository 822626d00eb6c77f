-- The blocks that are left lead from here to where all blocks lead from the start.
-- Assumes nothing.
use Rattle.std.proofs.Common.{◌≡◌, ◌-◌, length, take}
use Rattle.bits.specs.Str.{bytes_bits, words}
use Rattle.cipher.specs.Ciphers.{enc_at, words_bits}
use Rattle.chain.specs.Chain.{width_of, walked}
use Rattle.chain.proofs.Walking.{ahead}
use Rattle.chain.proofs.through.Given as goal

abbrev pub invariant-loop-i : goal.invariant-loop-i
invariant-loop-i l =
    let n = width_of l.k in
    let f = enc_at l.k.cipher (words l.rk) in
    (ahead n f l.backwards l.blocks (l.blocks - l.i) (take n (words_bits l.h)) (bytes_bits l.bytes) ≡ walked l.backwards n f l.blocks (take n (words_bits l.initial.h)) (bytes_bits l.bytes)) × (length l.h ≡ 4)
