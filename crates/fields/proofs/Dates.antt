-- The table of days is the calendar's rule: February has 28 days, 29 in a leap year; April, June, September and November have 30;
-- the others 31. Proved by one computed test over each row. So a date that passes is a real one (`real-date`).
-- Assumes nothing.
use Rattle.std.proofs.Common.{◌≡◌, refl, ap, ◌∙◌, subst, ℕ, ◌+◌, ◌-◌, ◌≤◌, Bool, true, false, ◌||◌, [], get_or, eqb, arith, eqb-true}
use Rattle.std.proofs.lemmas.Bool.{agree_below, agree_below_at}
use Rattle.bits.specs.Choice.{pick}
use Rattle.bits.proofs.Strings.{neither}
use Rattle.fields.specs.Field.{outside}
use Rattle.fields.specs.Date.{days, leap, days_in, date_wrong}
use Rattle.fields.proofs.Formed.{Within, within}

unfoldable pub calendar : Bool → ℕ → ℕ
calendar leapYear month =
    pick (eqb month 2) (pick leapYear 29 28) (pick (eqb month 4 || (eqb month 6 || (eqb month 9 || eqb month 11))) 30 31)

-- the row of common years, or of leap years, day by day
row : (b : Bool) → agree_below (λ k. eqb (get_or (get_or days (pick b 1 0) []) k 0) (calendar b (k + 1))) (λ k. true) 12 ≡ true
unfolding days calendar pick
row true = refl
row false = refl

pub table-is-calendar : (year month : ℕ) → 1 ≤ month → month ≤ 12 → days_in year month ≡ calendar (leap year) month
unfolding days_in
table-is-calendar year month low high =
    let back : month - 1 + 1 ≡ month = omega arith in
    eqb-true _ _ (agree_below_at (λ k. eqb (get_or (get_or days (pick (leap year) 1 0) []) k 0) (calendar (leap year) (k + 1))) (λ k. true) 12 (month - 1) (row (leap year)) (omega arith)) ∙ ap (calendar (leap year)) back

-- ---- a date that is not refused is a real one of the years 2000 to 2099

pub record Real (year month day : ℕ) : Type 0 where
  pub year-in : Within 2000 2099 year
  pub month-in : Within 1 12 month
  pub day-in : Within 1 (calendar (leap year) month) day

pub real-date : (year month day : ℕ) → date_wrong year month day ≡ false → Real year month day
unfolding date_wrong
real-date year month day e =
    let y = neither (outside 2000 2099 year) _ e in
    let md = neither (outside 1 12 month) _ y.1 in
    let m = within 1 12 month md.0 in
    record {
      year-in = within 2000 2099 year y.0;
      month-in = m;
      day-in = subst (λ (n : ℕ). Within 1 n day) (table-is-calendar year month m.low m.high) (within 1 (days_in year month) day md.1);
    }
