-- `put_both` meets its contract: the second part is put where the first one ends (`put-after`).
-- Assumes nothing.
use Rattle.std.proofs.Common.{rules, ◌≡◌, refl, ap, ◌∙◌, ◌++◌, List, ℕ, length, drop, arith}
use lib.Seq.{drop-drop}
use Rattle.block.proofs.Fronts.{put-after}
use Rattle.slip.proofs.put_both.Goals as goal

pub returns : goal.returns
returns c =
    let a = c.args.a.now in
    let b = c.args.b.now in
    let room = c.args.room.now in
    let r = c.put_part.new.room in
    let same : length r ≡ length room = search rules in
    put-after a (drop (length a) room) r b _ (length a) _ (length b) c.put_part.ensures refl (omega arith) c.put_part-2.ensures
    ∙ ap (λ (l : List ℕ). a ++ (b ++ l)) (drop-drop (length b) (length a) room)
