-- `window` meets its contract: two numbers side by side, by shifts (`funnel-unbounded`); past 128 bits the second is all
-- (`window_past`).
-- Assumes nothing.
use Rattle.std.proofs.Common.{◌≡◌, ℕ, ◌++◌, length, drop, take, lit<, arith, ap, ap₂, ◌∙◌, rules}
use Rattle.bits.specs.Str.{Bits, bytes_bits}
use Rattle.bits.proofs.Packed.{length-bytes_bits}
use Rattle.bits.proofs.Shifts.{funnel-unbounded}
use Rattle.block.proofs.Windows.{number-bits, bytes-of, window_past}
use Rattle.block.proofs.window.Goals as goal

pub returns : goal.returns
returns c =
    let s = c.min-s.result in
    let la : length c.args.a ≡ 16 = search rules in
    let lb : length c.args.b ≡ 16 = search rules in
    bytes-of _ _ c.to_be_bytes.ensures
    ∙ rw (c.unbounded_shl.ensures, c.unbounded_shr.ensures) (funnel-unbounded 128 s c.from_be_bytes.result c.from_be_bytes-2.result (lit< tt) c.from_be_bytes-2.type_inv)
    ∙ ap₂ (λ (u v : Bits). drop s u ++ take s v) (number-bits c.args.a _ (search rules) c.from_be_bytes.ensures) (number-bits c.args.b _ (search rules) c.from_be_bytes-2.ensures)
    ∙ ap (λ (n : ℕ). drop n (bytes_bits c.args.a) ++ take n (bytes_bits c.args.b)) c.min-s.ensures
    ∙ window_past (bytes_bits c.args.a) (bytes_bits c.args.b) c.args.s (omega (arith, length-bytes_bits c.args.a)) (omega (arith, length-bytes_bits c.args.b))
