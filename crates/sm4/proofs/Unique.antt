-- No second answer satisfies any public function's contract. Where a contract speaks of bits, the bits give the bytes or
-- words, since each fits its width.
-- Assumes nothing.
use mathlib.Core.Path.{◌≡◌, refl, sym, ap, ◌∙◌}
use mathlib.Core.List.{List}
use Prim.Native.Nat.{ℕ}
use lib.ListN.{get_or}
use borrow.Author.Rules.{rules}
use Rattle.bits.specs.Str.{Bits, bits_n, words}
use Rattle.bits.specs.Once.{Unique}
use Rattle.bits.proofs.Numbers.{bits_n-inj}
use Rattle.bits.proofs.Packed.{spread, spread-all}
use Rattle.bits.proofs.Same.{same, same_bytes, same-words, Words}
use Rattle.sm4.specs.Cipher.{Quad, quad, flat, four}
use Rattle.sm4.proofs.Laws.{four-words, long-words, quad-flat}
use Rattle.sm4.proofs.table.Kinds as table-k
use Rattle.sm4.proofs.table.Reads as table
use Rattle.sm4.proofs.wide.Kinds as wide-k
use Rattle.sm4.proofs.wide.Reads as wide
use Rattle.sm4.proofs.encrypt.Kinds as encrypt-k
use Rattle.sm4.proofs.encrypt.Reads as encrypt
use Rattle.sm4.proofs.decrypt.Kinds as decrypt-k
use Rattle.sm4.proofs.decrypt.Reads as decrypt
use Rattle.sm4.proofs.load.Kinds as load-k
use Rattle.sm4.proofs.load.Reads as load
use Rattle.sm4.proofs.store.Kinds as store-k
use Rattle.sm4.proofs.store.Reads as store
use Rattle.sm4.proofs.absorb.Kinds as absorb-k
use Rattle.sm4.proofs.absorb.Reads as absorb
use Rattle.sm4.proofs.backwards.Kinds as backwards-k
use Rattle.sm4.proofs.backwards.Reads as backwards
use Rattle.sm4.proofs.schedule.Kinds as schedule-k
use Rattle.sm4.proofs.schedule.Reads as schedule

-- four words that the contract says in a quad, or in a block
same-four : {x y : List ℕ} {Q : Quad} → Words 4 x → Words 4 y → four (words x) ≡ Q → four (words y) ≡ Q → x ≡ y
unfolding spread
same-four {x} {y} {Q} hx hy p q =
    let e = sym (four-words x hx.long) ∙ p ∙ sym q ∙ four-words y hy.long in
    cc (
      spread-all 4 x hx.long,
      spread-all 4 y hy.long,
      at 0 (ap (λ (X : Quad). X.x0) e),
      at 1 (ap (λ (X : Quad). X.x1) e),
      at 2 (ap (λ (X : Quad). X.x2) e),
      at 3 (ap (λ (X : Quad). X.x3) e),
    )
  where
    at : (i : ℕ) → bits_n 32 (get_or x i 0) ≡ bits_n 32 (get_or y i 0) → get_or x i 0 ≡ get_or y i 0
    at i = bits_n-inj 32 (get_or x i 0) (get_or y i 0) (hx.each i).fits (hy.each i).fits

pub same-flat : {x y : List ℕ} {w : Bits} → Words 4 x → Words 4 y → flat (four (words x)) ≡ w → flat (four (words y)) ≡ w → x ≡ y
same-flat {x} {y} {w} hx hy p q = same-four hx hy (back x hx p) (back y hy q)
  where
    back : (z : List ℕ) → Words 4 z → flat (four (words z)) ≡ w → four (words z) ≡ quad w
    back z h e = sym (quad-flat (four (words z)) (long-words z h.long)) ∙ ap quad e

pub table-unique : Unique table-k.ps table-k.r table.Asked table.Learnt
table-unique κs a g p x y = (same x.ensures y.ensures, refl)

pub wide-unique : Unique wide-k.ps wide-k.r wide.Asked wide.Learnt
wide-unique κs a g p x y = (same x.ensures y.ensures, refl)

pub encrypt-unique : Unique encrypt-k.ps encrypt-k.r encrypt.Asked encrypt.Learnt
encrypt-unique κs a g p x y = (same_bytes 16 (search rules) (search rules) x.ensures y.ensures, refl)

pub decrypt-unique : Unique decrypt-k.ps decrypt-k.r decrypt.Asked decrypt.Learnt
decrypt-unique κs a g p x y = (same_bytes 16 (search rules) (search rules) x.ensures y.ensures, refl)

pub backwards-unique : Unique backwards-k.ps backwards-k.r backwards.Asked backwards.Learnt
backwards-unique κs a g p x y = (same x.ensures y.ensures, refl)

pub schedule-unique : Unique schedule-k.ps schedule-k.r schedule.Asked schedule.Learnt
schedule-unique κs a g p x y = (same-words 32 (search rules) (search rules) x.ensures y.ensures, refl)

pub load-unique : Unique load-k.ps load-k.r load.Asked load.Learnt
load-unique κs a g p x y = (same-four (search rules) (search rules) x.ensures y.ensures, refl)

pub store-unique : Unique store-k.ps store-k.r store.Asked store.Learnt
store-unique κs a g p x y = (same_bytes 16 (search rules) (search rules) x.ensures y.ensures, refl)

pub absorb-unique : Unique absorb-k.ps absorb-k.r absorb.Asked absorb.Learnt
absorb-unique κs a g p x y = (same-flat (search rules) (search rules) x.ensures y.ensures, refl)
