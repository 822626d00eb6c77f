-- `xor` meets its contract: two blocks are equally long, so nothing is filled up (`filled-all`).
-- Assumes nothing.
use Rattle.std.proofs.Common.{◌≡◌, List, ℕ, length, take_all, arith, ap, ◌∙◌, rules}
use Rattle.bits.specs.Str.{bytes_bits, xor_b}
use Rattle.bits.proofs.Strings.{length-xor_b-min, filled-all}
use Rattle.bits.proofs.Packed.{length-bytes_bits}
use Rattle.block.specs.Block.{filled_block}
use Rattle.block.proofs.xor.Goals as goal

pub returns : goal.returns
returns c =
    let u = bytes_bits c.args.a in
    let v = bytes_bits c.args.b in
    let la : length c.args.a ≡ 16 = search rules in
    let lb : length c.args.b ≡ 16 = search rules in
    c.xor_part.ensures
    ∙ ap (λ (x : List ℕ). filled_block (xor_b (bytes_bits x) v)) (take_all 16 c.args.a (omega arith))
    ∙ filled-all 128 (xor_b u v) (omega (arith, length-xor_b-min u v, length-bytes_bits c.args.a, length-bytes_bits c.args.b))
