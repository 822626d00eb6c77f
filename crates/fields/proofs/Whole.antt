-- A slip without a fault in its fields is nothing but its four fields: label, length and value of each, one after the other, and no
-- byte besides (`four-fields`). A field that names an allowed length names the value's own length, since none is over 255. So every
-- number of it is a byte (`slip-bytes`).
-- Assumes nothing.
use Rattle.std.proofs.Common.{◌≡◌, refl, sym, ap, ◌∙◌, subst, false, List, [], ◌∷◌, ◌++◌, append-nil, ℕ, zero, suc, ◌/◌, ◌%◌, ◌<◌, arith, length, take, drop, get_or, length-drop, take-append-drop, drop_of_length-le, drop-cons, drop-drop, length-take-le, take_all}
use Rattle.bits.proofs.Strings.{neither}
use Rattle.fields.specs.Format.{expiry_row, lot_row, amount_row, seal_row}
use Rattle.fields.specs.Field.{outside, any_outside, two_bytes, length_of, value, end_of, field_of}
use Rattle.fields.specs.Layout.{lot_field_at, amount_at, seal_at, lot_field, amount_field, seal_field, covered}
use Rattle.fields.specs.declared.Row.{Row}
use Rattle.fields.proofs.Formed.{Formed, within, end_whole}
use Rattle.fields.proofs.Laid.{LaidOut}

module _ (row : Row) (field : List ℕ) (ok : Formed row field) where
  pub value-long : length (value field) ≡ length_of field
  unfolding value
  value-long = length-take-le (length_of field) (drop 3 field) (omega (arith, length-drop 3 field, ok.whole))

  three-first : field ≡ get_or field 0 0 ∷ get_or field 1 0 ∷ get_or field 2 0 ∷ drop 3 field
  three-first =
      drop-cons field 0 0 (omega (arith, ok.whole))
      ∙ ap (λ (l : List ℕ). get_or field 0 0 ∷ l) (drop-cons field 1 0 (omega (arith, ok.whole))
      ∙ ap (λ (l : List ℕ). get_or field 1 0 ∷ l) (drop-cons field 2 0 (omega (arith, ok.whole))))

  rest : drop 3 field ≡ value field ++ drop (end_of field) field
  unfolding value
  rest =
      sym (take-append-drop (length_of field) (drop 3 field))
      ∙ ap (λ (l : List ℕ). take (length_of field) (drop 3 field) ++ l) (drop-drop (length_of field) 3 field ∙ ap (λ (k : ℕ). drop k field) (sym (end_whole field ok.whole)))

  pub field-first : row.most < 256 → field ≡ field_of row (value field) ++ drop (end_of field) field
  unfolding length_of two_bytes
  field-first small =
      let high : get_or field 1 0 ≡ length (value field) / 256 = omega (arith, value-long, ok.allowed.high) in
      let low : get_or field 2 0 ≡ length (value field) % 256 = omega (arith, value-long, ok.allowed.high) in
      three-first ∙ rw (ok.labelled, high, low, rest) refl

-- what is left after a field is the next one
pub after-lot : (s : List ℕ) → drop (end_of (lot_field s)) (lot_field s) ≡ amount_field s
unfolding lot_field amount_field amount_at
after-lot s = drop-drop (end_of (lot_field s)) (lot_field_at s) s

pub after-amount : (s : List ℕ) → drop (end_of (amount_field s)) (amount_field s) ≡ seal_field s
unfolding amount_field seal_field seal_at
after-amount s = drop-drop (end_of (amount_field s)) (amount_at s) s

module _ (s : List ℕ) (ok : LaidOut s) where
  expiry-first : s ≡ field_of expiry_row (value s) ++ lot_field s
  unfolding lot_field lot_field_at
  expiry-first = field-first expiry_row s ok.expiry (omega arith)

  lot-first : lot_field s ≡ field_of lot_row (value (lot_field s)) ++ amount_field s
  lot-first = field-first lot_row (lot_field s) ok.lot (omega arith) ∙ ap (λ (l : List ℕ). field_of lot_row (value (lot_field s)) ++ l) (after-lot s)

  amount-first : amount_field s ≡ field_of amount_row (value (amount_field s)) ++ seal_field s
  amount-first = field-first amount_row (amount_field s) ok.amount (omega arith) ∙ ap (λ (l : List ℕ). field_of amount_row (value (amount_field s)) ++ l) (after-amount s)

  pub seal-alone : seal_field s ≡ field_of seal_row (value (seal_field s))
  seal-alone =
      field-first seal_row (seal_field s) ok.seal (omega arith)
      ∙ ap (λ (l : List ℕ). field_of seal_row (value (seal_field s)) ++ l) (drop_of_length-le (seal_field s) ok.ended)
      ∙ append-nil (field_of seal_row (value (seal_field s)))

  -- its value is all that it has after its head
  pub seal-value : value (seal_field s) ≡ drop 3 (seal_field s)
  unfolding value
  seal-value =
      let f = seal_field s in
      take_all (length_of f) (drop 3 f) (omega (arith, length-drop 3 f, end_whole f ok.seal.whole, ok.seal.whole, ok.ended))

  pub covered-then-seal : s ≡ covered s ++ seal_field s
  unfolding covered seal_field
  covered-then-seal = sym (take-append-drop (seal_at s) s)

  pub four-fields : s ≡ field_of expiry_row (value s) ++ (field_of lot_row (value (lot_field s)) ++ (field_of amount_row (value (amount_field s)) ++ field_of seal_row (value (seal_field s))))
  four-fields =
      expiry-first
      ∙ ap (λ (l : List ℕ). field_of expiry_row (value s) ++ l) (lot-first
      ∙ ap (λ (l : List ℕ). field_of lot_row (value (lot_field s)) ++ l) (amount-first
      ∙ ap (λ (l : List ℕ). field_of amount_row (value (amount_field s)) ++ l) seal-alone))

-- ---- bytes

-- each number is a byte
abbrev pub Bytewise : List ℕ → Type 0
Bytewise s = (i : ℕ) → get_or s i 0 < 256

bytes-cons : (x : ℕ) (s : List ℕ) → x < 256 → Bytewise s → Bytewise (x ∷ s)
bytes-cons x s h f zero = h
bytes-cons x s h f (suc i) = f i

bytes-append : (s t : List ℕ) → Bytewise s → Bytewise t → Bytewise (s ++ t)
bytes-append [] t f g = g
bytes-append (x ∷ s) t f g = bytes-cons x (s ++ t) (f 0) (bytes-append s t (λ i. f (suc i)) g)

-- those of a range
bytes-within : (low high : ℕ) (s : List ℕ) → high < 256 → any_outside low high s ≡ false → Bytewise s
unfolding any_outside
bytes-within low high [] h e = λ i. omega arith
bytes-within low high (x ∷ s) h e =
    let both = neither (outside low high x) (any_outside low high s) e in
    bytes-cons x s (omega (arith, (within low high x both.0).high)) (bytes-within low high s h both.1)

field-bytes : (row : Row) (field : List ℕ) → Formed row field → row.label < 256 → row.most < 256 → row.high < 256 → Bytewise (field_of row (value field))
field-bytes row field ok label most high =
    let v = value field in
    let l = length v in
    let first : l / 256 < 256 = omega (arith, value-long row field ok, ok.allowed.high) in
    let second : l % 256 < 256 = omega arith in
    bytes-cons row.label (l / 256 ∷ l % 256 ∷ v) label
    (bytes-cons (l / 256) (l % 256 ∷ v) first (bytes-cons (l % 256) v second (bytes-within row.low row.high v high ok.bytes)))

pub slip-bytes : (s : List ℕ) → LaidOut s → Bytewise s
slip-bytes s ok =
    let expiry = field_of expiry_row (value s) in
    let lot = field_of lot_row (value (lot_field s)) in
    let amount = field_of amount_row (value (amount_field s)) in
    let seal = field_of seal_row (value (seal_field s)) in
    subst Bytewise (sym (four-fields s ok))
    (bytes-append expiry (lot ++ (amount ++ seal)) (field-bytes expiry_row s ok.expiry (omega arith) (omega arith) (omega arith))
    (bytes-append lot (amount ++ seal) (field-bytes lot_row (lot_field s) ok.lot (omega arith) (omega arith) (omega arith))
    (bytes-append amount seal (field-bytes amount_row (amount_field s) ok.amount (omega arith) (omega arith) (omega arith))
    (field-bytes seal_row (seal_field s) ok.seal (omega arith) (omega arith) (omega arith)))))
