-- A field of a slip: its label, two bytes of length, high byte first, then the value (01, "The lot slip"). To be read, a field is
-- given as what is left of the slip from its first byte on; a byte that is not there counts as 0, and the faults see to it that no
-- such byte is ever believed.
-- Assumes nothing.
use Rattle.std.specs.Prelude.{Bool, ◌||◌, not, List, [], ◌∷◌, ℕ, ◌+◌, ◌-◌, ◌*◌, ◌/◌, ◌%◌, length, take, drop, get_or, eqb, ltb}
use Rattle.std.specs.List.{list_any}
use Rattle.bits.specs.Choice.{pick, Fault, ◌given◌}
use Rattle.fields.specs.declared.Row.{Row}

-- x is under the least or over the most
unfoldable pub outside : ℕ → ℕ → ℕ → Bool
outside least most x = ltb x least || ltb most x

-- some byte is
unfoldable pub any_outside : ℕ → ℕ → List ℕ → Bool
any_outside least most s = list_any (outside least most) s

-- two bytes as a number, high byte first
unfoldable pub two_bytes : List ℕ → ℕ → ℕ
two_bytes s i = get_or s i 0 * 256 + get_or s (i + 1) 0

-- the length that the field names
unfoldable pub length_of : List ℕ → ℕ
length_of field = two_bytes field 1

unfoldable pub value : List ℕ → List ℕ
value field = take (length_of field) (drop 3 field)

-- where the field ends: after its value, or with the slip where the value is cut short
unfoldable pub end_of : List ℕ → ℕ
end_of field = pick (ltb (length field) (3 + length_of field)) (length field) (3 + length_of field)

-- at each field: under 3 bytes left, 20; other label, 21; length not allowed, 22; value cut short, 20; a wrong value byte, 22
unfoldable pub field_faults : Row → List ℕ → List Fault
field_faults row field =
    20 given ltb (length field) 3 ∷
    21 given not (eqb (get_or field 0 0) row.label) ∷
    22 given outside row.least row.most (length_of field) ∷
    20 given ltb (length field - 3) (length_of field) ∷
    22 given any_outside row.low row.high (value field) ∷
    []

-- the field that a row and a value make
abbrev pub field_of : Row → List ℕ → List ℕ
field_of row v = row.label ∷ length v / 256 ∷ length v % 256 ∷ v
