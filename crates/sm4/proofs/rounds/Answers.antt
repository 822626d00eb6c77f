-- `rounds` meets its contract. The loop's invariant is the walk so far (Walk.antt).
-- Assumes nothing.
use mathlib.Core.Path.{ap, ◌∙◌}
use borrow.Author.Rules.{rules}
use Rattle.sm4.specs.Cipher.{R}
use Rattle.sm4.proofs.Walk.{keys-start, keys_on, walk_end}
use Rattle.sm4.proofs.rounds.Goals as goal

pub loop-turn-init : goal.loop-turn-init
loop-turn-init g c = keys-start g.M.Mixing.mixing _ (search rules) c.new-s.result c.new-s.ensures.1

pub loop-turn-preserved : goal.loop-turn-preserved
loop-turn-preserved g c =
    let l = c.loop-turn in
    keys_on g.M.Mixing.mixing _ (search rules) _ l.s _ l.turn l.invariant (search rules) c.step-s.ensures

pub returns : goal.returns
returns g c =
    let l = c.loop-turn in
    c.reversed.ensures ∙ ap R (walk_end g.M.Mixing.mixing _ _ l.s l.turn _ l.invariant (search rules) c.new-s.ensures.0)
