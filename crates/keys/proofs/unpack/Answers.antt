-- `unpack` meets its contract in each of its three ways: without a master, with one as the second key, with one alone.
-- Assumes nothing.
use Rattle.std.proofs.Common.{refl, sym, ap, ◌∙◌}
use Rattle.bits.specs.Str.{Bits, bytes_bits}
use Rattle.mac.specs.declared.Row.{Row}
use Rattle.mac.specs.Algorithm.{keys}
use Rattle.keys.specs.Given.{key_bits}
use Rattle.keys.proofs.MasterKeys.{as-given, second-master, first-master}
use Rattle.keys.proofs.unpack.Goals as goal

pub returns-else-master : goal.returns-else-master
returns-else-master c =
    as-given c.args.algorithm c.args.given.now _ _ c.front-first.ensures c.second_given-second.ensures _ c.args.master c.if-master.false c.of_two.ensures refl

pub returns-then-row : goal.returns-then-row
unfolding key_bits
returns-then-row c =
    second-master c.args.algorithm c.args.given.now _ _ c.front-first.ensures c.second_given-second.ensures _ c.args.master c.if-master.true refl
    (sym (ap (λ (r : Row). r.third) c.row_of-row.ensures) ∙ c.if-row.true)
    (ap (λ (d : Bits × Bits). record { k = bytes_bits c.front-first.result; k' = d.0; k'' = d.1 }) c.derived.ensures)

pub returns-else-row : goal.returns-else-row
returns-else-row c =
    first-master c.args.algorithm c.args.given.now _ _ c.front-first.ensures c.second_given-second.ensures _ c.args.master c.if-master.true refl
    (sym (ap (λ (r : Row). r.third) c.row_of-row.ensures) ∙ c.if-row.false)
    (c.of_two-keys.ensures ∙ ap (λ (d : Bits × Bits). keys d.0 d.1) c.derived-else-row.ensures)
