-- What was written is read back. Whatever goes on after the covered fields, reading finds each field where it was put, the seal
-- where the covered bytes end, and in each field the value that was written; where nothing refused it, the date and the amount too
-- (`says_back`). With a seal of an allowed length after them, the fields have no fault (`layout-back`).
-- Assumes nothing.
use Rattle.std.proofs.Common.{◌≡◌, refl, sym, ap, ap₂, ◌∙◌, Bool, false, List, [], ◌∷◌, ◌++◌, map, append_assoc, append-nil, ℕ, ◌+◌, ◌-◌, ◌*◌, ◌/◌, ◌%◌, ◌≤◌, ◌<◌, arith, length, take, drop, length-append, length-drop, take_at, le-ltb}
use Rattle.std.proofs.lemmas.Bool.Decides.{nat_tests}
use Rattle.bits.specs.Choice.{pick, ◌given◌, first_of}
use Rattle.bits.proofs.Faults.{first-append-clear}
use Rattle.fields.specs.Format.{expiry_row, lot_row, amount_row, seal_row}
use Rattle.fields.specs.Field.{any_outside, two_bytes, length_of, value, end_of, field_faults, field_of}
use Rattle.fields.specs.Date.{digit_at, two_digits, year_of, month_of, day_of, leap, date_wrong}
use Rattle.fields.specs.Layout.{lot_field_at, seal_at, lot_field, amount_field, seal_field, covered, amount_of, amount_wrong, expiry_faults, lot_faults, amount_faults, seal_faults, layout_faults}
use Rattle.fields.proofs.Inside.{lot-there, seal-there, seal-long}
use Rattle.fields.proofs.Whole.{after-lot, after-amount}
use Rattle.fields.proofs.Written.{written-length, written-value, written_after, written-clear}
use Rattle.fields.proofs.Dates.{Real, real-date, calendar}
use Rattle.fields.proofs.Formed.{Within, row_first, first_none, first_more, end_whole, inside}
use Rattle.fields.proofs.Laid.{expiry-numbered, lot-numbered, amount-numbered}
use Rattle.fields.specs.declared.Row.{Row}
use Rattle.writing.proofs.Sayable.{Sayable}
use Rattle.writing.specs.Writing.{Says, said, digit_of, expiry_value, amount_value, covered_of}

-- ---- numbers of two digits and of four

two_back : (n : ℕ) → n < 100 → 10 * (digit_of (n / 10) - 0x30) + (digit_of n - 0x30) ≡ n
unfolding digit_of
two_back n h = omega arith

-- a number of four is two of two
four-back : (n : ℕ) → n < 10000 → 100 * (10 * (digit_of (n / 1000) - 0x30) + (digit_of (n / 100) - 0x30)) + (10 * (digit_of (n / 10) - 0x30) + (digit_of n - 0x30)) ≡ n
unfolding digit_of
four-back n h =
    let first : n / 1000 ≡ n / 100 / 10 = omega arith in
    let third : n / 10 % 10 ≡ n % 100 / 10 % 10 = omega arith in
    let last : n % 10 ≡ n % 100 % 10 = omega arith in
    let whole : 100 * (n / 100) + n % 100 ≡ n = omega arith in
    ap₂ (λ (k l : ℕ). 100 * k + l)
    (ap (λ (k : ℕ). 10 * (0x30 + k % 10 - 0x30) + (0x30 + n / 100 % 10 - 0x30)) first ∙ two_back (n / 100) (omega arith))
    (ap₂ (λ (k l : ℕ). 10 * (0x30 + k - 0x30) + (0x30 + l - 0x30)) third last ∙ two_back (n % 100) (omega arith))
    ∙ whole

-- no month has more than 31 days
month-most : (b : Bool) (m : ℕ) → calendar b m ≤ 31
unfolding calendar pick
month-most b m = grind (arith, nat_tests)

-- what a slip says
abbrev pub says_of : List ℕ → Says
says_of s = said (year_of s) (month_of s) (day_of s) (value (lot_field s)) (amount_of (amount_field s))

-- the digits of what is to be said
abbrev expiry_of : Says → List ℕ
expiry_of x = expiry_value x.year x.month x.day

module _ (x : Says) (rest : List ℕ) where
  -- the slip
  abbrev s : List ℕ
  s = covered_of x ++ rest

  -- ---- where the fields stand

  pub in-turn : s ≡ field_of expiry_row (expiry_of x) ++ (field_of lot_row x.lot ++ (field_of amount_row (amount_value x.amount) ++ rest))
  unfolding covered_of
  in-turn =
      append_assoc (field_of expiry_row (expiry_of x)) (field_of lot_row x.lot ++ field_of amount_row (amount_value x.amount)) rest
      ∙ ap (λ (l : List ℕ). field_of expiry_row (expiry_of x) ++ l) (append_assoc (field_of lot_row x.lot) (field_of amount_row (amount_value x.amount)) rest)

  lot-back : lot_field s ≡ field_of lot_row x.lot ++ (field_of amount_row (amount_value x.amount) ++ rest)
  unfolding lot_field lot_field_at
  lot-back = ap (λ (l : List ℕ). drop (end_of l) l) in-turn ∙ written_after expiry_row (expiry_of x) _

  amount-back : amount_field s ≡ field_of amount_row (amount_value x.amount) ++ rest
  amount-back = sym (after-lot s) ∙ ap (λ (l : List ℕ). drop (end_of l) l) lot-back ∙ written_after lot_row x.lot _

  pub seal-back : seal_field s ≡ rest
  seal-back = sym (after-amount s) ∙ ap (λ (l : List ℕ). drop (end_of l) l) amount-back ∙ written_after amount_row (amount_value x.amount) rest

  -- the seal covers what was written, all of it
  pub covered-back : covered s ≡ covered_of x
  unfolding covered
  covered-back =
      let at : seal_at s ≡ length (covered_of x) = omega (arith, seal-there s, seal-long s, ap length seal-back, length-append (covered_of x) rest) in
      ap (λ (k : ℕ). take k s) at ∙ take_at (covered_of x) rest (length (covered_of x)) refl

  -- ---- what they hold

  pub lot-value-back : value (lot_field s) ≡ x.lot
  lot-value-back = ap value lot-back ∙ written-value lot_row x.lot _

  pub lot-length-back : length_of (lot_field s) ≡ length x.lot
  lot-length-back = ap length_of lot-back ∙ written-length lot_row x.lot _

  pub lot-at-back : lot_field_at s ≡ 11
  unfolding lot_field expiry_value
  lot-at-back = omega (arith, lot-there s, length-drop (lot_field_at s) s, ap length lot-back, ap length in-turn)

  module _ (ok : Sayable x) where
    real : Real x.year x.month x.day
    real = real-date x.year x.month x.day ok.date

    year-back : year_of s ≡ x.year
    unfolding year_of two_digits digit_at expiry_value
    year-back = ap year_of in-turn ∙ four-back x.year (omega (arith, real.year-in))

    month-back : month_of s ≡ x.month
    unfolding month_of two_digits digit_at expiry_value
    month-back = ap month_of in-turn ∙ two_back x.month (omega (arith, real.month-in))

    day-back : day_of s ≡ x.day
    unfolding day_of two_digits digit_at expiry_value
    day-back = ap day_of in-turn ∙ two_back x.day (omega (arith, real.day-in, month-most (leap x.year) x.month))

    amount-of-back : amount_of (amount_field s) ≡ x.amount
    unfolding amount_of two_bytes amount_value
    amount-of-back = ap amount_of amount-back ∙ omega (arith, ok.microlitres)

    -- the date, the lot and the amount, as they were to be said
    pub says_back : says_of s ≡ x
    says_back = λ i. said (year-back i) (month-back i) (day-back i) (lot-value-back i) (amount-of-back i)

-- also where nothing comes after it yet
pub covered-all : (x : Says) → covered (covered_of x) ≡ covered_of x
covered-all x = ap covered (sym (append-nil (covered_of x))) ∙ covered-back x []

-- ---- no fault in the fields

-- every number that a function gives lies in a range
all_in : (low high : ℕ) (f : ℕ → ℕ) → ((n : ℕ) → Within low high (f n)) → (ns : List ℕ) → any_outside low high (map f ns) ≡ false
unfolding any_outside
all_in low high f h [] = refl
all_in low high f h (n ∷ ns) = rw (inside low high (f n) (h n)) (all_in low high f h ns)

digit-in : (n : ℕ) → Within 0x30 0x39 (digit_of n)
unfolding digit_of
digit-in n = record { low = omega arith; high = omega arith }

byte-in : (n : ℕ) → Within 0x00 0xff (n % 256)
byte-in n = record { low = omega arith; high = omega arith }

-- no fault of the row's, and not the field's own
own-clear : (row : Row) (field : List ℕ) (k : ℕ) (b : Bool) → first_of (field_faults row field) ≡ 0 → b ≡ false → first_of (field_faults row field ++ (k given b ∷ [])) ≡ 0
own-clear row field k b e h = row_first row field (k given b ∷ []) ∙ rw (e, first_more k b [], h, first_none) refl

-- of the covered fields, whatever comes after them
module _ (x : Says) (ok : Sayable x) (rest : List ℕ) where
  pub expiry-clear : first_of (expiry_faults (s x rest)) ≡ 0
  unfolding expiry_faults expiry_value
  expiry-clear =
      own-clear expiry_row (s x rest) 23 _
      (rw (in-turn x rest) (written-clear expiry_row (expiry_of x) _ (omega arith) (omega arith)
      (all_in 0x30 0x39 digit_of digit-in (x.year / 1000 ∷ x.year / 100 ∷ x.year / 10 ∷ x.year ∷ x.month / 10 ∷ x.month ∷ x.day / 10 ∷ x.day ∷ []))))
      (ap (λ (y : Says). date_wrong y.year y.month y.day) (says_back x rest ok) ∙ ok.date)

  pub lot-clear : first_of (lot_faults (lot_field (s x rest))) ≡ 0
  unfolding lot_faults
  lot-clear = rw (lot-back x rest) (written-clear lot_row x.lot _ ok.lot-length.low ok.lot-length.high ok.lot-bytes)

  pub amount-clear : first_of (amount_faults (amount_field (s x rest))) ≡ 0
  unfolding amount_faults amount_value
  amount-clear =
      own-clear amount_row (amount_field (s x rest)) 22 _
      (rw (amount-back x rest) (written-clear amount_row (amount_value x.amount) _ (omega arith) (omega arith)
      (all_in 0x00 0xff (λ n. n % 256) byte-in (x.amount / 16777216 ∷ x.amount / 65536 ∷ x.amount / 256 ∷ x.amount ∷ []))))
      (ap (λ (n : ℕ). amount_wrong n) (amount-of-back x rest ok) ∙ inside 1 1000000 x.amount ok.microlitres)

module _ (x : Says) (ok : Sayable x) (v : List ℕ) (least : 4 ≤ length v) (most : length v ≤ 19) (bytes : any_outside 0x00 0xff v ≡ false) where
  abbrev whole : List ℕ
  whole = covered_of x ++ field_of seal_row v

  seal-clear : first_of (seal_faults (seal_field whole)) ≡ 0
  unfolding seal_faults
  seal-clear =
      let f = field_of seal_row v in
      let named : length_of f ≡ length v = ap length_of (sym (append-nil f)) ∙ written-length seal_row v [] in
      let ends : length f ≤ end_of f = omega (arith, end_whole f (omega (arith, named)), named) in
      rw (seal-back x f) (own-clear seal_row f 24 _ (rw (append-nil f) at (written-clear seal_row v [] least most bytes)) (le-ltb (end_of f) (length f) ends))

  pub layout-back : first_of (layout_faults whole) ≡ 0
  unfolding layout_faults
  layout-back =
      first-append-clear (expiry_faults whole) _ (expiry-numbered whole) (expiry-clear x ok (field_of seal_row v))
      ∙ first-append-clear (lot_faults (lot_field whole)) _ (lot-numbered (lot_field whole)) (lot-clear x ok (field_of seal_row v))
      ∙ first-append-clear (amount_faults (amount_field whole)) _ (amount-numbered (amount_field whole)) (amount-clear x ok (field_of seal_row v))
      ∙ seal-clear
