-- What is not refused: the lot, the amount and the date are as their rules ask (`sayable`). And what `lay_out` answers: the
-- refusal, or the covered bytes first.
-- Assumes nothing.
use Rattle.std.proofs.Common.{◌≡◌, refl, ap, ◌∙◌, false, List, ◌++◌, ℕ, ◌+◌, ◌≤◌, arith, length, take, drop, replicate, length-append, take_at, Result, Ok, Err}
use Rattle.bits.specs.Choice.{pick, first_of}
use Rattle.bits.proofs.Choice.{chosen-number}
use Rattle.bits.proofs.Lists.{drop-replicate}
use Rattle.bits.proofs.Strings.{neither}
use Rattle.bits.proofs.Faults.{Clear, passed, done, Every, all, with, Numbered, first-clear}
use Rattle.fields.specs.Format.{amount_row}
use Rattle.fields.specs.Field.{any_outside, field_of}
use Rattle.fields.specs.Date.{date_wrong}
use Rattle.fields.proofs.Formed.{Within, within, inside}
use Rattle.refusals.specs.declared.Refusal.{Refusal}
use Rattle.refusals.proofs.Number.{refusal-numbered, same-refusal, first-number}
use Rattle.writing.specs.declared.Covered.{Covered}
use Rattle.writing.specs.Writing.{Says, value_wrong, says_faults, expiry_value, amount_value, covered_of, filled_to, CoveredTold, lay_out, covered_told}

pub record Sayable (x : Says) : Type 0 where
  pub lot-length : Within 1 32 (length x.lot)
  pub lot-bytes : any_outside 0x21 0x7e x.lot ≡ false
  pub microlitres : Within 1 1000000 x.amount
  pub date : date_wrong x.year x.month x.day ≡ false

-- what holds of 22 and 23 holds of their numbers
pub says-every : {P : ℕ → Type 0} → P 22 → P 23 → (x : Says) → Every P (says_faults x)
unfolding says_faults
says-every p22 p23 x = with p22 (with p22 (with p23 all))

-- of tests with their refusals
pub ruleset numbered = (first-number)

pub says-numbered : (x : Says) → Numbered (says_faults x)
says-numbered x = says-every refl refl x

clear-says : (x : Says) → Clear (says_faults x) → Sayable x
unfolding says_faults value_wrong
clear-says x (passed e (passed f (passed g done))) =
    let lot = neither _ _ e in
    record {
      lot-length = within 1 32 (length x.lot) lot.0;
      lot-bytes = lot.1;
      microlitres = within 1 1000000 x.amount f;
      date = g;
    }

pub sayable : (x : Says) → first_of (says_faults x) ≡ 0 → Sayable x
sayable x e = clear-says x (first-clear (says_faults x) (says-numbered x) e)

-- and the other way round
pub unrefused : (x : Says) → Sayable x → first_of (says_faults x) ≡ 0
unfolding says_faults value_wrong first_of pick
unrefused x ok = rw (inside 1 32 (length x.lot) ok.lot-length, ok.lot-bytes, inside 1 1000000 x.amount ok.microlitres, ok.date) refl

pub length-covered : (x : Says) → length (covered_of x) ≡ 21 + length x.lot
unfolding covered_of expiry_value amount_value
length-covered x = omega (arith, length-append x.lot (field_of amount_row (amount_value x.amount)))

-- ---- what is laid out

-- bytes put over zeros
pub over_zeros : (k : ℕ) (s bytes : List ℕ) → length s ≤ k → bytes ≡ s ++ drop (length s) (replicate k 0) → bytes ≡ filled_to k s
unfolding filled_to
over_zeros k s bytes few e = e ∙ ap (λ (l : List ℕ). s ++ l) (drop-replicate 0 (length s) k few)

module _ (x : Says) where
  -- the number of the first fault
  pub laid-refusal : (lay_out x).refusal ≡ first_of (says_faults x)
  unfolding lay_out
  laid-refusal = chosen-number (λ (l : CoveredTold). l.refusal) (first_of (says_faults x)) _ _ refl refl

  -- where there is none: the covered bytes first, and their number
  pub laid-first : first_of (says_faults x) ≡ 0 → take (lay_out x).count (lay_out x).bytes ≡ covered_of x
  unfolding lay_out filled_to pick
  laid-first e = rw e (take_at (covered_of x) _ (length (covered_of x)) refl)

  pub laid-count : first_of (says_faults x) ≡ 0 → (lay_out x).count ≡ length (covered_of x)
  unfolding lay_out pick
  laid-count e = rw e refl

-- what is told the same is the same
pub same-told : (a b : Result Covered Refusal) → covered_told a ≡ covered_told b → a ≡ b
unfolding covered_told
same-told (Ok c) (Ok d) e = λ i. Ok (record { count = (e i).count; bytes = (e i).bytes })
same-told (Ok c) (Err s) e = absurd (omega (arith, refusal-numbered s, ap (λ (t : CoveredTold). t.refusal) e))
same-told (Err r) (Ok d) e = absurd (omega (arith, refusal-numbered r, ap (λ (t : CoveredTold). t.refusal) e))
same-told (Err r) (Err s) e = ap Err (same-refusal r s (ap (λ (t : CoveredTold). t.refusal) e))
