-- The expiry: eight digits, year month day; years 2000 to 2099, real dates. Days per month come from a table with a row for leap
-- years (01, "The lot slip"). The digits stand in bytes 3 to 10 of field 01.
-- Assumes nothing.
use Rattle.std.specs.Prelude.{Bool, ◌||◌, List, [], ◌∷◌, ℕ, ◌+◌, ◌-◌, ◌*◌, ◌%◌, get_or, eqb}
use Rattle.bits.specs.Choice.{pick}
use Rattle.fields.specs.Field.{outside}
use Rattle.fields.specs.declared.Date.{Date}

unfoldable pub digit_at : List ℕ → ℕ → ℕ
digit_at s i = get_or s i 0 - 0x30

unfoldable pub two_digits : List ℕ → ℕ → ℕ
two_digits s i = 10 * digit_at s i + digit_at s (i + 1)

unfoldable pub year_of : List ℕ → ℕ
year_of field = 100 * two_digits field 3 + two_digits field 5

unfoldable pub month_of : List ℕ → ℕ
month_of field = two_digits field 7

unfoldable pub day_of : List ℕ → ℕ
day_of field = two_digits field 9

abbrev pub date_of : List ℕ → Date
date_of field = record { year = year_of field; month = month_of field; day = day_of field }

-- days of the months: a row for common years, a row for leap years
unfoldable pub days : List (List ℕ)
days =
    (31 ∷ 28 ∷ 31 ∷ 30 ∷ 31 ∷ 30 ∷ 31 ∷ 31 ∷ 30 ∷ 31 ∷ 30 ∷ 31 ∷ []) ∷
    (31 ∷ 29 ∷ 31 ∷ 30 ∷ 31 ∷ 30 ∷ 31 ∷ 31 ∷ 30 ∷ 31 ∷ 30 ∷ 31 ∷ []) ∷
    []

unfoldable pub leap : ℕ → Bool
leap year = eqb (year % 4) 0

unfoldable pub days_in : ℕ → ℕ → ℕ
days_in year month = get_or (get_or days (pick (leap year) 1 0) []) (month - 1) 0

-- a year outside 2000 to 2099, or an unreal date
unfoldable pub date_wrong : ℕ → ℕ → ℕ → Bool
date_wrong year month day = outside 2000 2099 year || (outside 1 12 month || outside 1 (days_in year month) day)
