-- `through` meets its contract, both ways: each turn goes through one of the blocks that are left (`walked-turn`).
-- Assumes nothing.
use Rattle.std.proofs.Common.{rules, ◌≡◌, ◌≤◌, ◌<◌, ◌+◌, ◌-◌, ◌*◌, ◌/◌, ℕ, List, Bool, length, take, Fits, w64, sym, ap, ◌∙◌}
use native.Mathlib.Nat.{lt_of_le_of_lt}
use native.Mathlib.Omega.{arith}
use Rattle.bits.specs.Str.{Bits, bytes_bits, words, xor_b}
use Rattle.cipher.specs.Ciphers.{cipher_at, enc_at, words_bits}
use Rattle.cipher.proofs.Laws.{width-at, first_load, first-absorb, first_store}
use Rattle.chain.specs.Chain.{width_of, walked}
use Rattle.chain.proofs.Walking.{next_of, part, part_in, part-long, ahead, walked-turn, all-ahead, none_ahead, nothing_walked}
use Rattle.chain.proofs.through.Goals as goal

-- the code's block size in bytes
whole : (c w : ℕ) → w ≡ (cipher_at c).n → (cipher_at c).n ≡ 8 * (w / 8)
whole c w e = omega (arith, width-at c)

-- the part lies in the slice
in-slice : (c w : ℕ) (backwards : Bool) (b k i : ℕ) (s : List ℕ) → w ≡ (cipher_at c).n → i ≡ next_of backwards b k → 0 < k → k ≤ b → b * (cipher_at c).n ≤ 8 * length s
    → i * (w / 8) + w / 8 ≤ length s
in-slice c w backwards b k i s e at p le h = rw at (part_in (cipher_at c).n (w / 8) (whole c w e) backwards b k (length s) p le h)

pub returns-then-blocks-eq0 : goal.returns-then-blocks-eq0
returns-then-blocks-eq0 c =
    let a = c.args in
    nothing_walked (width_of a.k.now) (enc_at a.k.now.cipher (words a.rk)) a.backwards a.blocks c.if-blocks-eq0.true (take (width_of a.k.now) (bytes_bits a.start)) (bytes_bits a.bytes.now)

pub loop-i-init : goal.loop-i-init
loop-i-init c =
    let a = c.args in
    let none : a.blocks - 0 ≡ a.blocks = omega arith in
    (ap (λ (k : ℕ). ahead (width_of a.k.now) (enc_at a.k.now.cipher (words a.rk)) a.backwards a.blocks k (take (width_of a.k.now) (words_bits c.load-h.result)) (bytes_bits a.bytes.now)) none ∙ all-ahead (width_of a.k.now) (enc_at a.k.now.cipher (words a.rk)) a.backwards a.blocks (take (width_of a.k.now) (words_bits c.load-h.result)) (bytes_bits a.bytes.now), search rules)

pub overflow_mul-at : goal.overflow_mul-at
overflow_mul-at c =
    let a = c.args in
    let here = in-slice a.k.now.cipher _ a.backwards a.blocks (a.blocks - c.loop-i.i) _ a.bytes.now c.width-size.ensures c.next_block.ensures (omega arith) (omega arith) c.requires in
    let le : c.next_block.result * (c.width-size.result / 8) ≤ length a.bytes.now = omega (arith, here) in
    let f : Fits w64 (length a.bytes.now) = search rules in
    record { fits = lt_of_le_of_lt le f.fits }

pub overflow_add-at : goal.overflow_add-at
overflow_add-at c =
    let a = c.args in
    let here = in-slice a.k.now.cipher _ a.backwards a.blocks (a.blocks - c.loop-i.i) _ a.bytes.now c.width-size.ensures c.next_block.ensures (omega arith) (omega arith) c.requires in
    let f : Fits w64 (length a.bytes.now) = search rules in
    record { fits = lt_of_le_of_lt here f.fits }

pub slice_bounds-absorb-end : goal.slice_bounds-absorb-end
slice_bounds-absorb-end c =
    let a = c.args in
    in-slice a.k.now.cipher _ a.backwards a.blocks (a.blocks - c.loop-i.i) _ a.bytes.now c.width-size.ensures c.next_block.ensures (omega arith) (omega arith) c.requires

pub absorb-next-requires : goal.absorb-next-requires
absorb-next-requires c =
    let a = c.args in
    let here = in-slice a.k.now.cipher _ a.backwards a.blocks (a.blocks - c.loop-i.i) _ a.bytes.now c.width-size.ensures c.next_block.ensures (omega arith) (omega arith) c.requires in
    (a.k.now.lent, c.wide-w.ensures, part-long (width_of a.k.now) (c.width-size.result / 8) (whole a.k.now.cipher c.width-size.result c.width-size.ensures) c.next_block.result a.bytes.now here)

pub loop-i-preserved : goal.loop-i-preserved
loop-i-preserved c =
    let a = c.args in
    let l = c.loop-i in
    let left = a.blocks - l.i in
    let n = width_of a.k.now in
    let w = c.width-size in
    let f = enc_at a.k.now.cipher (words a.rk) in
    let size = whole a.k.now.cipher w.result w.ensures in
    let here = in-slice a.k.now.cipher _ a.backwards a.blocks left _ a.bytes.now w.ensures c.next_block.ensures (omega arith) (omega arith) c.requires in
    let h = take n (words_bits l.h) in
    let one = first-absorb a.k.now.cipher l.h l.invariant.1 (words a.rk) _ _ (part-long n (w.result / 8) size c.next_block.result a.bytes.now here) c.absorb-next.ensures in
    let less : a.blocks - (l.i + 1) ≡ left - 1 = omega arith in (
      ap (λ (k : ℕ). ahead n f a.backwards a.blocks k (take n (words_bits c.absorb-next.result)) (bytes_bits a.bytes.now)) less
          ∙ ap (λ (u : Bits). ahead n f a.backwards a.blocks (left - 1) u (bytes_bits a.bytes.now)) (one ∙ ap (λ (i : ℕ). f (xor_b (bytes_bits (part n (w.result / 8) size i a.bytes.now)) h)) c.next_block.ensures)
          ∙ walked-turn n (w.result / 8) size f a.backwards a.blocks left h a.bytes.now (omega arith) (omega arith) ∙ l.invariant.0,
      search rules,
    )

pub returns : goal.returns
returns c =
    let a = c.args in
    let l = c.loop-i in
    let n = width_of a.k.now in
    let f = enc_at a.k.now.cipher (words a.rk) in
    let none : a.blocks - l.i ≡ 0 = omega arith in
    let sixteen : length a.start ≡ 16 = search rules in
    first_store a.k.now.cipher l.h l.invariant.1 _ c.store.ensures
    ∙ sym (none_ahead n f a.backwards a.blocks (take n (words_bits l.h)) (bytes_bits a.bytes.now))
    ∙ ap (λ (k : ℕ). ahead n f a.backwards a.blocks k (take n (words_bits l.h)) (bytes_bits a.bytes.now)) (sym none) ∙ l.invariant.0
    ∙ ap (λ (h : Bits). walked a.backwards n f a.blocks h (bytes_bits a.bytes.now)) (first_load a.k.now.cipher a.start _ sixteen c.load-h.ensures)
