-- `mark` meets its contract: at 2 and 4 both sides compute, and any other method puts zeros (`blank-mark`).
-- Assumes nothing.
use Rattle.std.proofs.Common.{rules, ◌≡◌}
use mathlib.Core.Logic.{inl, inr}
use mathlib.Core.List.{flat_map}
use Rattle.bits.specs.Str.{digit, bits_n, bytes_bits, zeros, filled}
use Rattle.mac.specs.Padding.{method_at}
use Rattle.chain.specs.Chain.{mark_of}
use Rattle.chain.proofs.Closing.{blank-mark}
use Rattle.chain.proofs.mark.Goals as goal

pub returns-in-2 : goal.returns-in-2
unfolding bytes_bits flat_map bits_n digit zeros filled method_at mark_of
returns-in-2 c = elim c.in-2.is [ inl two ↦ rw two | inr four ↦ rw four ]

pub returns-in_default : goal.returns-in_default
unfolding bytes_bits flat_map bits_n digit zeros filled
returns-in_default c =
    let n2 : c.args.padding ≡ 2 → ⊥ = search rules in
    let n4 : c.args.padding ≡ 4 → ⊥ = search rules in
    blank-mark _ n2 n4
