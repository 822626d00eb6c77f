-- `expand` meets its contract, field by field: what `schedule`, `row_of` and `expanded_where` ensure.
-- Assumes nothing.
use Rattle.chain.specs.Rounds.{rounds_bits, rounds_of, key_blocks}
use Rattle.chain.proofs.expand.Goals as goal

pub returns : goal.returns
unfolding rounds_bits rounds_of key_blocks
returns c =
    let row = c.row_of-row.ensures in
    let first = c.schedule-first.ensures in
    let second = rw row at c.expanded_where-second.ensures in
    let third = rw row at c.expanded_where-third.ensures in
    λ i. record { k = first i; k' = second i; k'' = third i }
