-- `no_such_block` meets its contract: as many whole blocks as that, or fewer, lie in the bits (`no-block-at`).
-- Assumes nothing.
use mathlib.Core.Path.{◌≡◌, sym, ap, ◌∙◌}
use Prim.Native.Nat.{ℕ, suc, ◌+◌, ◌*◌, ◌/◌, ◌≤◌, ◌<◌}
use native.Mathlib.Nat.{suc-mul, le-div_iff_mul-le, mul-le-mul_right, lt-div-mul-add}
use native.Mathlib.Decide.{dec_lt}
use native.Mathlib.Omega.{arith}
use lib.Dec.{ltb, leb}
use borrow.Author.Tests.{lt-ltb, le-ltb, lt-leb, le-leb}
use Rattle.cipher.specs.Ciphers.{cipher_at}
use Rattle.cipher.proofs.Laws.{width-at}
use Rattle.message.proofs.no_such_block.Goals as goal

no-block-at : (l j n : ℕ) → 0 < n → leb (l / n) j ≡ ltb l (suc j * n)
no-block-at l j n pos = go (dec_lt j (l / n))
  where
    go : Dec (j < l / n) → leb (l / n) j ≡ ltb l (suc j * n)
    go (yes h) = lt-leb (l / n) j h ∙ sym (le-ltb l (suc j * n) ((le-div_iff_mul-le pos).0 h))
    go (no h) =
        let few : l / n ≤ j = omega (arith, h) in
        let less : l < l / n * n + n = lt-div-mul-add pos in
        let past : suc (l / n) * n ≤ suc j * n = mul-le-mul_right n (omega arith) in
        le-leb (l / n) j few ∙ sym (lt-ltb l (suc j * n) (omega (arith, less, suc-mul (l / n) n, past)))

pub nonzero_div-result : goal.nonzero_div-result
nonzero_div-result c = omega (arith, c.width.ensures, width-at 1)

pub returns : goal.returns
returns c =
    let a = c.args in
    ap (λ (n : ℕ). leb (a.bits / n) a.number) c.width.ensures ∙ no-block-at a.bits a.number (cipher_at 1).n (omega (arith, width-at 1))
