-- A slip's four fields, one after the other, and everything that can be wrong with them: refusals 20 to 24 (01, "The lot slip").
-- Assumes nothing.
use Rattle.std.specs.Prelude.{Bool, List, [], ◌∷◌, ◌++◌, ℕ, ◌+◌, ◌*◌, length, take, drop, ltb}
use Rattle.bits.specs.Choice.{Fault, ◌given◌, first_of}
use Rattle.fields.specs.Format.{expiry_row, lot_row, amount_row, seal_row}
use Rattle.fields.specs.Field.{outside, two_bytes, end_of, field_faults}
use Rattle.fields.specs.Date.{year_of, month_of, day_of, date_wrong}
use Rattle.refusals.specs.Number.{number_in}
use Rattle.fields.specs.declared.Places.{Places}
use Rattle.fields.specs.declared.Layout.{Layout}

-- ---- where the fields stand

unfoldable pub lot_field_at : List ℕ → ℕ
lot_field_at s = end_of s

unfoldable pub amount_at : List ℕ → ℕ
amount_at s = lot_field_at s + end_of (drop (lot_field_at s) s)

unfoldable pub seal_at : List ℕ → ℕ
seal_at s = amount_at s + end_of (drop (amount_at s) s)

unfoldable pub places_of : List ℕ → Places
places_of s = record { lot = lot_field_at s; amount = amount_at s; seal = seal_at s }

unfoldable pub lot_field : List ℕ → List ℕ
lot_field s = drop (lot_field_at s) s

unfoldable pub amount_field : List ℕ → List ℕ
amount_field s = drop (amount_at s) s

unfoldable pub seal_field : List ℕ → List ℕ
seal_field s = drop (seal_at s) s

-- the seal covers all bytes before field 7F
unfoldable pub covered : List ℕ → List ℕ
covered s = take (seal_at s) s

-- ---- the faults of each field: those of its row, and its own

-- 01 expiry: a year outside 2000-2099 or an unreal date, 23
unfoldable pub expiry_faults : List ℕ → List Fault
expiry_faults field = field_faults expiry_row field ++ (23 given date_wrong (year_of field) (month_of field) (day_of field) ∷ [])

-- 02 lot: nothing besides
unfoldable pub lot_faults : List ℕ → List Fault
lot_faults field = field_faults lot_row field

-- 03 amount: high first, 1 to 1,000,000 microlitres; a wrong amount, 22
unfoldable pub amount_of : List ℕ → ℕ
amount_of field = two_bytes field 3 * 65536 + two_bytes field 5

abbrev pub amount_wrong : ℕ → Bool
amount_wrong amount = outside 1 1000000 amount

unfoldable pub amount_faults : List ℕ → List Fault
amount_faults field = field_faults amount_row field ++ (22 given amount_wrong (amount_of field) ∷ [])

-- 7F seal: bytes after the seal, 24
unfoldable pub seal_faults : List ℕ → List Fault
seal_faults field = field_faults seal_row field ++ (24 given ltb (end_of field) (length field) ∷ [])

-- ---- in the order of the fields
unfoldable pub layout_faults : List ℕ → List Fault
layout_faults s = expiry_faults s ++ (lot_faults (lot_field s) ++ (amount_faults (amount_field s) ++ seal_faults (seal_field s)))

-- where the fields stand, and the first refusal, 0 where there is none
pub record LayoutTold : Type 0 where
  pub places : Places
  pub refusal : ℕ

unfoldable pub layout_of : List ℕ → LayoutTold
layout_of s = record { places = places_of s; refusal = first_of (layout_faults s) }

-- what the code answers, told so
abbrev pub layout_told : Layout → LayoutTold
layout_told l = record { places = l.places; refusal = number_in l.judged }
