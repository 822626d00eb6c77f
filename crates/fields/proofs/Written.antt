-- A field that is put together from its row and a value that the row allows is read back from whatever slip goes on after it: it has
-- no fault, its value is that value, and after it comes what came after it.
-- Assumes nothing.
use Rattle.std.proofs.Common.{◌≡◌, refl, ap, ◌∙◌, false, List, ◌∷◌, ◌++◌, ℕ, ◌+◌, ◌-◌, ◌/◌, ◌%◌, ◌≤◌, arith, length, take, drop, length-append, take_at, drop_at, le-ltb, eq-eqb}
use Rattle.bits.specs.Choice.{first_of}
use Rattle.bits.proofs.Faults.{passed, done, clear_first}
use Rattle.fields.specs.Field.{outside, any_outside, two_bytes, length_of, value, end_of, field_faults, field_of}
use Rattle.fields.specs.declared.Row.{Row}
use Rattle.fields.proofs.Formed.{end_whole}

module _ (row : Row) (v rest : List ℕ) where
  pub written-length : length_of (field_of row v ++ rest) ≡ length v
  unfolding length_of two_bytes
  written-length = omega arith

  long : 3 + length_of (field_of row v ++ rest) ≤ length (field_of row v ++ rest)
  long = omega (arith, written-length, length-append v rest)

  pub written-value : value (field_of row v ++ rest) ≡ v
  unfolding value
  written-value = ap (λ (k : ℕ). take k (v ++ rest)) written-length ∙ take_at v rest (length v) refl

  pub written_after : drop (end_of (field_of row v ++ rest)) (field_of row v ++ rest) ≡ rest
  written_after =
      let e : end_of (field_of row v ++ rest) ≡ length (row.label ∷ length v / 256 ∷ length v % 256 ∷ v) = omega (arith, end_whole (field_of row v ++ rest) long, written-length) in
      ap (λ (k : ℕ). drop k (field_of row v ++ rest)) e ∙ drop_at (field_of row v) rest (length (field_of row v)) refl

  pub written-clear : row.least ≤ length v → length v ≤ row.most → any_outside row.low row.high v ≡ false → first_of (field_faults row (field_of row v ++ rest)) ≡ 0
  unfolding field_faults outside
  written-clear low high good =
      let f = field_of row v ++ rest in
      clear_first
      (passed (le-ltb (length f) 3 (omega arith))
      (passed (rw (eq-eqb row.label row.label refl) refl)
      (passed (rw (written-length, le-ltb (length v) row.least low, le-ltb row.most (length v) high) refl)
      (passed (le-ltb (length f - 3) (length_of f) (omega (arith, long)))
      (passed (ap (any_outside row.low row.high) written-value ∙ good) done)))))
