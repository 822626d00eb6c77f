-- What was read is written again: a slip without a fault in its fields is the covered fields of what it says, and its seal
-- (`written-again`). For the digits and the bytes of a number are the only ones that give it (`expiry-again`, `amount-again`), so
-- what the slip says can be written, and is written to the same bytes.
-- Assumes nothing.
use Rattle.std.proofs.Common.{◌≡◌, refl, sym, ap, ap₂, ◌∙◌, subst, List, [], ◌∷◌, ◌++◌, ℕ, ◌+◌, ◌-◌, ◌*◌, ◌/◌, ◌%◌, ◌≤◌, ◌<◌, arith, length, drop, get_or}
use Rattle.bits.proofs.Packed.{spread, spread-all}
use Rattle.fields.specs.Format.{expiry_row, lot_row, amount_row, seal_row}
use Rattle.fields.specs.Field.{two_bytes, value, end_of, field_of}
use Rattle.fields.specs.Date.{digit_at, two_digits, year_of, month_of, day_of}
use Rattle.fields.specs.Layout.{lot_field, amount_field, seal_field, covered, amount_of}
use Rattle.fields.specs.declared.Row.{Row}
use Rattle.fields.proofs.Formed.{Within, within, Formed, within_all}
use Rattle.fields.proofs.Laid.{LaidOut}
use Rattle.fields.proofs.Whole.{value-long, field-first, four-fields}
use Rattle.writing.specs.Writing.{digit_of, expiry_value, amount_value, covered_of}
use Rattle.writing.proofs.Sayable.{Sayable}
use Rattle.writing.proofs.ReadBack.{says_of, in-turn, covered-back}

-- ---- digits and bytes

-- two digits' bytes and the number that they give
module _ (a b : ℕ) (wa : Within 0x30 0x39 a) (wb : Within 0x30 0x39 b) where
  two-first : digit_of ((10 * (a - 0x30) + (b - 0x30)) / 10) ≡ a
  unfolding digit_of
  two-first = omega (arith, wa, wb)

  two-second : digit_of (10 * (a - 0x30) + (b - 0x30)) ≡ b
  unfolding digit_of
  two-second = omega (arith, wa, wb)

  two-small : 10 * (a - 0x30) + (b - 0x30) ≤ 99
  two-small = omega (arith, wa, wb)

-- the digits of h hundreds and l
module _ (h l : ℕ) (few : l ≤ 99) where
  hundreds-first : digit_of ((100 * h + l) / 1000) ≡ digit_of (h / 10)
  unfolding digit_of
  hundreds-first =
      let e : (100 * h + l) / 1000 ≡ h / 10 = omega arith in
      ap (λ (k : ℕ). 0x30 + k % 10) e

  hundreds-second : digit_of ((100 * h + l) / 100) ≡ digit_of h
  unfolding digit_of
  hundreds-second =
      let e : (100 * h + l) / 100 ≡ h = omega arith in
      ap (λ (k : ℕ). 0x30 + k % 10) e

  hundreds-third : digit_of ((100 * h + l) / 10) ≡ digit_of (l / 10)
  unfolding digit_of
  hundreds-third =
      let e : (100 * h + l) / 10 % 10 ≡ l / 10 % 10 = omega arith in
      ap (λ (k : ℕ). 0x30 + k) e

  hundreds-last : digit_of (100 * h + l) ≡ digit_of l
  unfolding digit_of
  hundreds-last = omega arith

-- ---- the fields

module _ (row : Row) (field : List ℕ) (ok : Formed row field) (small : row.most < 256) where
  -- a field whose value has n bytes, one by one
  field-by-one : (n : ℕ) → row.least ≡ n → row.most ≡ n → (value field ≡ spread n 0 (value field)) × (field ≡ field_of row (spread n 0 (value field)) ++ drop (end_of field) field)
  field-by-one n low high =
      let all : value field ≡ spread n 0 (value field) = sym (spread-all n (value field) (omega (arith, value-long row field ok, ok.allowed))) in
      (all, field-first row field ok small ∙ ap (λ (v : List ℕ). field_of row v ++ drop (end_of field) field) all)

-- the numbers that eight digits give
module _ (v : List ℕ) where
  abbrev of_year : ℕ
  of_year = 100 * (10 * (get_or v 0 0 - 0x30) + (get_or v 1 0 - 0x30)) + (10 * (get_or v 2 0 - 0x30) + (get_or v 3 0 - 0x30))

  abbrev of_month : ℕ
  of_month = 10 * (get_or v 4 0 - 0x30) + (get_or v 5 0 - 0x30)

  abbrev of_day : ℕ
  of_day = 10 * (get_or v 6 0 - 0x30) + (get_or v 7 0 - 0x30)

  eight-digits : ((i : ℕ) → i < 8 → Within 0x30 0x39 (get_or v i 0)) → expiry_value of_year of_month of_day ≡ spread 8 0 v
  unfolding expiry_value spread
  eight-digits d =
      let low = two-small (get_or v 2 0) (get_or v 3 0) (d 2 (omega arith)) (d 3 (omega arith)) in
      let first = hundreds-first _ _ low ∙ two-first (get_or v 0 0) (get_or v 1 0) (d 0 (omega arith)) (d 1 (omega arith)) in
      let second = hundreds-second _ _ low ∙ two-second (get_or v 0 0) (get_or v 1 0) (d 0 (omega arith)) (d 1 (omega arith)) in
      let third = hundreds-third (10 * (get_or v 0 0 - 0x30) + (get_or v 1 0 - 0x30)) _ low ∙ two-first (get_or v 2 0) (get_or v 3 0) (d 2 (omega arith)) (d 3 (omega arith)) in
      let fourth = hundreds-last (10 * (get_or v 0 0 - 0x30) + (get_or v 1 0 - 0x30)) _ low ∙ two-second (get_or v 2 0) (get_or v 3 0) (d 2 (omega arith)) (d 3 (omega arith)) in
      let fifth = two-first (get_or v 4 0) (get_or v 5 0) (d 4 (omega arith)) (d 5 (omega arith)) in
      let sixth = two-second (get_or v 4 0) (get_or v 5 0) (d 4 (omega arith)) (d 5 (omega arith)) in
      let seventh = two-first (get_or v 6 0) (get_or v 7 0) (d 6 (omega arith)) (d 7 (omega arith)) in
      let eighth = two-second (get_or v 6 0) (get_or v 7 0) (d 6 (omega arith)) (d 7 (omega arith)) in
      λ i. first i ∷ second i ∷ third i ∷ fourth i ∷ fifth i ∷ sixth i ∷ seventh i ∷ eighth i ∷ []

expiry-again : (s : List ℕ) → Formed expiry_row s → expiry_value (year_of s) (month_of s) (day_of s) ≡ value s
unfolding year_of month_of day_of two_digits digit_at spread
expiry-again s ok =
    let v = value s in
    let long : length v ≡ 8 = omega (arith, value-long expiry_row s ok, ok.allowed) in
    let by_one = field-by-one expiry_row s ok (omega arith) 8 refl refl in
    ap (λ (f : List ℕ). expiry_value (year_of f) (month_of f) (day_of f)) by_one.1
    ∙ eight-digits v (λ i h. within_all 0x30 0x39 v ok.bytes i (omega arith))
    ∙ sym by_one.0

-- the number that four bytes give
four_bytes : (a b c d : ℕ) → a < 256 → b < 256 → c < 256 → d < 256 → amount_value ((a * 256 + b) * 65536 + (c * 256 + d)) ≡ a ∷ b ∷ c ∷ d ∷ []
unfolding amount_value
four_bytes a b c d ha hb hc hd =
    let n = (a * 256 + b) * 65536 + (c * 256 + d) in
    let first : n / 16777216 % 256 ≡ a = omega arith in
    let second : n / 65536 % 256 ≡ b = omega arith in
    let third : n / 256 % 256 ≡ c = omega arith in
    let last : n % 256 ≡ d = omega arith in
    λ i. first i ∷ second i ∷ third i ∷ last i ∷ []

amount-again : (field : List ℕ) → Formed amount_row field → amount_value (amount_of field) ≡ value field
unfolding amount_of two_bytes spread
amount-again field ok =
    let v = value field in
    let long : length v ≡ 4 = omega (arith, value-long amount_row field ok, ok.allowed) in
    let by_one = field-by-one amount_row field ok (omega arith) 4 refl refl in
    let byte : (i : ℕ) → i < 4 → get_or v i 0 < 256 = λ i h. (let w = within_all 0x00 0xff v ok.bytes i (omega arith) in omega (arith, w)) in
    ap (λ (f : List ℕ). amount_value (amount_of f)) by_one.1
    ∙ four_bytes (get_or v 0 0) (get_or v 1 0) (get_or v 2 0) (get_or v 3 0) (byte 0 (omega arith)) (byte 1 (omega arith)) (byte 2 (omega arith)) (byte 3 (omega arith))
    ∙ sym by_one.0

-- ---- the slip

module _ (s : List ℕ) (ok : LaidOut s) where
  pub sayable-again : Sayable (says_of s)
  sayable-again = record {
    lot-length = subst (Within 1 32) (sym (value-long lot_row (lot_field s) ok.lot)) ok.lot.allowed;
    lot-bytes = ok.lot.bytes;
    microlitres = within 1 1000000 _ ok.microlitres;
    date = ok.date;
  }

  pub written-again : s ≡ covered_of (says_of s) ++ field_of seal_row (value (seal_field s))
  written-again =
      four-fields s ok
      ∙ ap₂ (λ (e a : List ℕ). field_of expiry_row e ++ (field_of lot_row (value (lot_field s)) ++ (field_of amount_row a ++ field_of seal_row (value (seal_field s))))) (sym (expiry-again s ok.expiry)) (sym (amount-again (amount_field s) ok.amount))
      ∙ sym (in-turn (says_of s) (field_of seal_row (value (seal_field s))))

  pub covered-again : covered_of (says_of s) ≡ covered s
  covered-again = sym (ap covered written-again ∙ covered-back (says_of s) (field_of seal_row (value (seal_field s))))
