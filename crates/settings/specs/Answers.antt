-- What an answer says in document 01's words: for every case its number (0 where nothing is refused), and the calls that it reports.
-- Assumes nothing.
use Rattle.std.specs.Prelude.{ℕ, eqb, Result, Ok, Err}
use Rattle.bits.specs.Choice.{pick}
use Rattle.mac.specs.Algorithm.{Keys}
use Rattle.refusals.specs.Number.{refusal_number}
use Rattle.refusals.specs.declared.Refusal.{Refusal}
use Rattle.settings.specs.Faults.{settings_refusal}
use Rattle.settings.specs.declared.Outcome.{Outcome}
use Rattle.settings.specs.declared.Outcome.TheVariants as outcome
use Rattle.settings.specs.declared.Agreement.{Agreement}
use Rattle.settings.specs.declared.Settings.{Settings}

-- what a call comes to
pub data Told : Type 0 where
  Accepted : Told
  Made : ℕ → Told
  Yes : ℕ → Told
  No : ℕ → Told
  Refused : ℕ → Told

unfoldable pub told : Result Outcome Refusal → Told
told (Ok outcome.Accepted) = Accepted
told (Ok (outcome.Made calls)) = Made calls
told (Ok (outcome.Yes calls)) = Yes calls
told (Ok (outcome.No calls)) = No calls
told (Err r) = Refused (refusal_number r)

unfoldable pub number_of : Told → ℕ
number_of Accepted = 0
number_of (Made calls) = 0
number_of (Yes calls) = 0
number_of (No calls) = 0
number_of (Refused number) = number

unfoldable pub reported_calls : Told → ℕ
reported_calls Accepted = 0
reported_calls (Made calls) = calls
reported_calls (Yes calls) = calls
reported_calls (No calls) = calls
reported_calls (Refused number) = 0

-- the settings of an agreement
abbrev pub settings_of : Agreement → Settings
settings_of A = record { algorithm = A.algorithm; padding = A.padding; m = A.m }

-- checked: the settings, or the number that refuses them
pub data Checked : Type 0 where
  Sound : Settings → Checked
  Unsound : ℕ → Checked

unfoldable pub checked_told : Result Settings Refusal → Checked
checked_told (Ok S) = Sound S
checked_told (Err r) = Unsound (refusal_number r)

unfoldable pub checked_of : Agreement → ℕ → Keys → Checked
checked_of A n K =
    let no = settings_refusal A n K in
    pick (eqb no 0) (Sound (settings_of A)) (Unsound no)

unfoldable pub checked_number : Checked → ℕ
checked_number (Sound S) = 0
checked_number (Unsound number) = number
