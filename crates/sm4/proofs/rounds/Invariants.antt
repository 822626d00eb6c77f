-- `rounds` meets its contract. The loop's invariant is the walk so far (Walk.antt).
-- Assumes nothing.
use Rattle.bits.specs.Str.{words}
use Rattle.sm4.proofs.Walk.{Walked}
use Rattle.sm4.proofs.rounds.Given as goal

abbrev pub invariant-loop-turn : goal.invariant-loop-turn
invariant-loop-turn g l = Walked g.M.Mixing.mixing (words l.rk) l.initial.s l.s l.turn
