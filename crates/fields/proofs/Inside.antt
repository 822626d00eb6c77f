-- The fields stand inside the slip.
-- Assumes nothing.
use Rattle.std.proofs.Common.{ℕ, ◌+◌, ◌-◌, ◌≤◌, ◌≡◌, ap, ◌∙◌, List, arith, length, take, drop, length-drop}
use Rattle.std.proofs.lemmas.Bool.Decides.{nat_tests}
use Rattle.bits.specs.Choice.{pick}
use Rattle.bits.proofs.Lists.{take_rest}
use Rattle.fields.specs.Field.{end_of}
use Rattle.fields.specs.Layout.{lot_field_at, amount_at, seal_at, seal_field}

end-there : (field : List ℕ) → end_of field ≤ length field
unfolding end_of pick
end-there field = grind (arith, nat_tests)

-- the next field after one that begins inside
next-there : (s : List ℕ) (at : ℕ) → at ≤ length s → at + end_of (drop at s) ≤ length s
next-there s at h = omega (arith, end-there (drop at s), length-drop at s)

pub lot-there : (s : List ℕ) → lot_field_at s ≤ length s
unfolding lot_field_at
lot-there s = end-there s

pub amount-there : (s : List ℕ) → amount_at s ≤ length s
unfolding amount_at
amount-there s = next-there s (lot_field_at s) (lot-there s)

pub seal-there : (s : List ℕ) → seal_at s ≤ length s
unfolding seal_at
seal-there s = next-there s (amount_at s) (amount-there s)

pub seal-long : (s : List ℕ) → length (seal_field s) ≡ length s - seal_at s
unfolding seal_field
seal-long s = length-drop (seal_at s) s

-- the part from a place on, as the code takes it
pub part-from : (s : List ℕ) (k at : ℕ) → k ≡ at → take (length s - k) (drop k s) ≡ drop at s
part-from s k at e = take_rest k s ∙ ap (λ (i : ℕ). drop i s) e
