-- `rotl32` meets its contract: a shift to the left, a shift to the right and an or rotate (`rotl-shifts`); by 0 nothing moves.
-- Assumes nothing.
use Rattle.std.proofs.Common.{arith, ◌%◌, sym, ap, ◌∙◌}
use mathlib.Core.List.{append-nil}
use Rattle.bits.specs.Str.{bits_n, rotl}
use Rattle.bits.proofs.Shifts.{rotl-shifts}
use Rattle.bits.proofs.rotl32.Goals as goal

pub returns-then-k-eq0 : goal.returns-then-k-eq0
unfolding rotl
returns-then-k-eq0 c = sym (ap (λ k. rotl k (bits_n 32 c.args.x)) c.if-k-eq0.true ∙ append-nil (bits_n 32 c.args.x))

pub returns-else-k-eq0 : goal.returns-else-k-eq0
returns-else-k-eq0 c = rotl-shifts 32 (c.args.r % 32) c.args.x (omega arith) c.ranges.x.fits
