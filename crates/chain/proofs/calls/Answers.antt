-- `calls` meets its contract: the sums fit, for a byte and both other parts are far from the largest number (`count-le`, `further-le`).
-- Assumes nothing.
use mathlib.Core.Path.{ap, ap₂}
use Prim.Native.Nat.{ℕ, ◌+◌, ◌<◌}
use native.Mathlib.Omega.{arith}
use Rattle.cipher.specs.Ciphers.{cipher_at}
use Rattle.cipher.proofs.Laws.{width-at}
use Rattle.mac.specs.declared.Row.{Row}
use Rattle.mac.specs.Padding.{method_at}
use Rattle.chain.proofs.Rows.{further-le, count-le}
use borrow.Author.Rules.{rules}
use Rattle.chain.proofs.calls.Goals as goal

pub overflow_add-result : goal.overflow_add-result
overflow_add-result c =
    let row = c in
    let a = row.args in
    let further = ap (λ (r : Row). r.further) row.row_of-row.ensures in
    omega (arith, count-le (cipher_at a.cipher).n a.bits (omega (arith, width-at a.cipher)) (method_at a.s.padding), further-le a.s.algorithm)

pub overflow_add-result-2 : goal.overflow_add-result-2
overflow_add-result-2 c =
    let row = c in
    let a = row.args in
    let byte : a.unpacking < 256 = search rules in
    let further = ap (λ (r : Row). r.further) row.row_of-row.ensures in
    omega (arith, count-le (cipher_at a.cipher).n a.bits (omega (arith, width-at a.cipher)) (method_at a.s.padding), further-le a.s.algorithm)

pub returns : goal.returns
returns c =
    let row = c in
    ap₂ (λ (x y : ℕ). row.args.unpacking + (x + y)) c.block_count.ensures (ap (λ (r : Row). r.further) row.row_of-row.ensures)
