-- `put_covered` meets its contract: each field is put where the one before it ends (`put_three`).
-- Assumes nothing.
use Rattle.std.proofs.Common.{◌≡◌, refl, ap, ◌∙◌, ℕ, ◌+◌, ◌++◌, length, drop, arith}
use Rattle.block.proofs.Fronts.{put_three}
use Rattle.fields.specs.Format.{expiry_row, lot_row, amount_row}
use Rattle.fields.specs.Field.{field_of}
use Rattle.writing.specs.Writing.{says, expiry_value, amount_value, covered_of}
use Rattle.writing.proofs.Said.put_covered.Goals as goal

pub returns : goal.returns
unfolding covered_of expiry_value amount_value
returns c =
    let s = c.args.self in
    let all : 14 + length s.lot.now + 7 ≡ 21 + length s.lot.now = omega arith in
    put_three (field_of expiry_row (expiry_value s.date.year s.date.month s.date.day)) (field_of lot_row s.lot.now) (field_of amount_row (amount_value s.amount)) c.args.room.now c.put_field.new.room _ c.put_field-2.new.room c.put_field-3.new.room 11 (3 + length s.lot.now) _ 7
    refl (omega arith) (omega arith) (omega (arith, c.requires)) (rw c.expiry_value-expiry.ensures at c.put_field.ensures) c.put_field-2.ensures refl
    (rw c.to_be_bytes-microlitres.ensures at c.put_field-3.ensures)
    ∙ ap (λ (k : ℕ). covered_of (says s) ++ drop k c.args.room.now) all
