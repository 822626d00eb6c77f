-- The fields of a slip that its seal covers, written from what the slip is to say, by the rows that reading uses (02 §1); and what
-- cannot be written: refusals 22 and 23.
-- Assumes nothing.
use Rattle.std.specs.Prelude.{Bool, ◌||◌, List, [], ◌∷◌, ◌++◌, ℕ, ◌+◌, ◌-◌, ◌/◌, ◌%◌, length, replicate, eqb, Result, Ok, Err}
use Rattle.bits.specs.Choice.{pick, Fault, ◌given◌, first_of}
use Rattle.fields.specs.Format.{expiry_row, lot_row, amount_row}
use Rattle.fields.specs.Field.{outside, any_outside, field_of}
use Rattle.fields.specs.Date.{date_wrong}
use Rattle.fields.specs.Layout.{amount_wrong}
use Rattle.fields.specs.declared.Row.{Row}
use Rattle.refusals.specs.Number.{refusal_number}
use Rattle.refusals.specs.declared.Refusal.{Refusal}
use Rattle.writing.specs.declared.Said.{Said}
use Rattle.writing.specs.declared.Covered.{Covered}

-- what a slip says: the expiry, the lot's bytes, and the amount in microlitres
pub record Says : Type 0 where
  pub year : ℕ
  pub month : ℕ
  pub day : ℕ
  pub lot : List ℕ
  pub amount : ℕ

abbrev pub said : ℕ → ℕ → ℕ → List ℕ → ℕ → Says
said year month day lot amount = record { year = year; month = month; day = day; lot = lot; amount = amount }

-- what the code is given, told so
abbrev pub says : Said → Says
says x = said x.date.year x.date.month x.date.day x.lot.now x.amount

-- ---- what cannot be written

-- a value that its row does not allow: its length, or one of its bytes
unfoldable pub value_wrong : Row → List ℕ → Bool
value_wrong row v = outside row.least row.most (length v) || any_outside row.low row.high v

-- 22 (lot or amount), 23 (date)
unfoldable pub says_faults : Says → List Fault
says_faults x =
    22 given value_wrong lot_row x.lot ∷
    22 given amount_wrong x.amount ∷
    23 given date_wrong x.year x.month x.day ∷
    []

-- ---- the values of the fields

-- the lowest decimal digit, as its byte
unfoldable pub digit_of : ℕ → ℕ
digit_of x = 0x30 + x % 10

-- 8 digits, year month day
unfoldable pub expiry_value : ℕ → ℕ → ℕ → List ℕ
expiry_value year month day =
    digit_of (year / 1000) ∷ digit_of (year / 100) ∷ digit_of (year / 10) ∷ digit_of year ∷
    digit_of (month / 10) ∷ digit_of month ∷
    digit_of (day / 10) ∷ digit_of day ∷
    []

-- 4 bytes, high first
unfoldable pub amount_value : ℕ → List ℕ
amount_value amount = amount / 16777216 % 256 ∷ amount / 65536 % 256 ∷ amount / 256 % 256 ∷ amount % 256 ∷ []

-- ---- the bytes

-- the fields 01, 02 and 03, one after the other
unfoldable pub covered_of : Says → List ℕ
covered_of x =
    field_of expiry_row (expiry_value x.year x.month x.day) ++
    (field_of lot_row x.lot ++
    field_of amount_row (amount_value x.amount))

-- so many bytes, the last of them zeros
unfoldable pub filled_to : ℕ → List ℕ → List ℕ
filled_to k s = s ++ replicate (k - length s) 0

-- the covered bytes: the refusal, 0 where there is none, their number, and the bytes with zeros after them up to the most there can be
pub record CoveredTold : Type 0 where
  pub refusal : ℕ
  pub count : ℕ
  pub bytes : List ℕ

-- the bytes; or the refusal
unfoldable pub lay_out : Says → CoveredTold
lay_out x =
    let no = first_of (says_faults x) in
    pick (eqb no 0)
    (record { refusal = 0; count = length (covered_of x); bytes = filled_to 53 (covered_of x) })
    (record { refusal = no; count = 0; bytes = filled_to 53 [] })

-- what the code answers, told so
unfoldable pub covered_told : Result Covered Refusal → CoveredTold
covered_told (Ok c) = record { refusal = 0; count = c.count; bytes = c.bytes }
covered_told (Err r) = record { refusal = refusal_number r; count = 0; bytes = filled_to 53 [] }
