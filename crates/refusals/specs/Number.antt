-- Document 01's number of every refusal, and of what a judgement comes to: 0 where nothing is refused.
-- Assumes nothing.
use Rattle.std.specs.Prelude.{ℕ, Result, Ok, Err, Bool, List, [], ◌∷◌}
use Rattle.bits.specs.Choice.{Fault, ◌given◌}
use Rattle.refusals.specs.declared.Refusal.{Refusal}
use Rattle.refusals.specs.declared.Refusal.TheVariants.{Algorithm, Padding, TagBits, KeyBytes, SameKeys, MessageBytes, TooManyBits, TooFewBlocks, TagBytes, Closed, DeclaredLength, CutShort, FieldOrder, FieldValue, Date, AfterTheSeal, NotAsAgreed, Seal, NoSuchBlock}

abbrev pub refusal_number : Refusal → ℕ
refusal_number Algorithm = 1
refusal_number Padding = 2
refusal_number TagBits = 3
refusal_number KeyBytes = 4
refusal_number SameKeys = 5
refusal_number MessageBytes = 7
refusal_number TooManyBits = 8
refusal_number TooFewBlocks = 9
refusal_number TagBytes = 10
refusal_number Closed = 11
refusal_number DeclaredLength = 12
refusal_number CutShort = 20
refusal_number FieldOrder = 21
refusal_number FieldValue = 22
refusal_number Date = 23
refusal_number AfterTheSeal = 24
refusal_number NotAsAgreed = 25
refusal_number Seal = 30
refusal_number NoSuchBlock = 41

-- of what may be refused
unfoldable pub number_in : {A : Type 0} → Result A Refusal → ℕ
number_in (Ok x) = 0
number_in (Err r) = refusal_number r

-- tests with their refusals, as faults with their numbers
unfoldable pub faults_of : List (Bool × Refusal) → List Fault
faults_of [] = []
faults_of ((b, r) ∷ ts) = refusal_number r given b ∷ faults_of ts
