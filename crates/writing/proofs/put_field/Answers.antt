-- `put_field` meets its contract: three bytes of head, and the value after them (`put-after`).
-- Assumes nothing.
use Rattle.std.proofs.Common.{◌≡◌, refl, ap, ◌∙◌, ℕ, ◌/◌, ◌%◌, List, [], ◌∷◌, ◌++◌, length, get_or, drop, arith}
use Rattle.std.proofs.Math.Seq.{drop-drop}
use Rattle.block.proofs.Fronts.{put-after}
use Rattle.writing.proofs.put_field.Goals as goal

pub returns : goal.returns
returns c =
    let v = c.args.value.now in
    let high : get_or c.to_be_bytes.result 0 0 ≡ length v / 256 = ap (λ (l : List ℕ). get_or l 0 0) c.to_be_bytes.ensures ∙ omega arith in
    let low : get_or c.to_be_bytes.result 1 0 ≡ length v % 256 = ap (λ (l : List ℕ). get_or l 1 0) c.to_be_bytes.ensures ∙ omega arith in
    put-after (c.args.row.label ∷ length v / 256 ∷ length v % 256 ∷ []) (drop 3 c.args.room.now) c.put_part.new.room v _ 3 _ (length v) (rw (high, low) at c.put_part.ensures) refl (omega arith) c.put_part-2.ensures
    ∙ ap (λ (l : List ℕ). c.args.row.label ∷ length v / 256 ∷ length v % 256 ∷ (v ++ l)) (drop-drop (length v) 3 c.args.room.now)
