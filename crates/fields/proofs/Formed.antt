-- What a field without a fault by its row is (`Formed`): its label, a length that is allowed, the whole value there, and its bytes in
-- the range. And how a list of refusals goes on after another.
-- Assumes nothing.
use Rattle.std.proofs.Common.{◌≡◌, refl, Bool, true, false, List, [], ◌∷◌, ◌++◌, ℕ, zero, suc, ◌+◌, ◌-◌, ◌≤◌, ◌<◌, arith, length, get_or, eqb, ltb, ltb-false, le-ltb, eqb-true, cond, Ok, Err}
use Rattle.std.proofs.lemmas.Bool.{eqb-false, not-false, cond_both}
use Rattle.std.proofs.lemmas.Grind.{common_steps}
use Rattle.refusals.specs.Number.{refusal_number, number_in}
use Rattle.refusals.specs.declared.Refusal.{Refusal}
use Rattle.bits.specs.Choice.{pick, Fault, ◌given◌, first_of}
use Rattle.bits.proofs.Strings.{neither}
use Rattle.bits.proofs.Faults.{Clear, passed, done, Every, all, with, Numbered, first-append, first-append-clear}
use Rattle.refusals.proofs.Number.{refusal-numbered}
use Rattle.fields.specs.Field.{outside, any_outside, length_of, value, end_of, field_faults}
use Rattle.fields.specs.declared.Row.{Row}

-- ---- tests

-- neither under the least nor over the most
pub record Within (least most x : ℕ) : Type 0 where
  pub low : least ≤ x
  pub high : x ≤ most

pub within : (least most x : ℕ) → outside least most x ≡ false → Within least most x
unfolding outside
within least most x e =
    let b = neither (ltb x least) (ltb most x) e in
    record { low = ltb-false x least b.0; high = ltb-false most x b.1 }

pub inside : (least most x : ℕ) → Within least most x → outside least most x ≡ false
unfolding outside
inside least most x h = rw (le-ltb x least h.low, le-ltb most x h.high) refl

pub within_all : (least most : ℕ) (s : List ℕ) → any_outside least most s ≡ false → (i : ℕ) → i < length s → Within least most (get_or s i 0)
unfolding any_outside
within_all least most [] e i h = absurd (omega arith)
within_all least most (b ∷ s) e zero h = within least most b (neither (outside least most b) (any_outside least most s) e).0
within_all least most (b ∷ s) e (suc i) h = within_all least most s (neither (outside least most b) (any_outside least most s) e).1 i (omega arith)

-- a range of 00 to FF leaves no byte outside
pub any-byte : (s : List ℕ) → ((i : ℕ) → get_or s i 0 < 256) → any_outside 0x00 0xff s ≡ false
unfolding any_outside outside
any-byte [] fit = refl
any-byte (b ∷ s) fit = rw (le-ltb b 0 (omega arith), le-ltb 255 b (omega (arith, fit 0))) (any-byte s (λ i. fit (suc i)))

-- ---- a field

pub record Formed (row : Row) (field : List ℕ) : Type 0 where
  pub labelled : get_or field 0 0 ≡ row.label
  pub allowed : Within row.least row.most (length_of field)
  pub whole : 3 + length_of field ≤ length field
  pub bytes : any_outside row.low row.high (value field) ≡ false

-- what holds of 20, 21 and 22 holds of its numbers
pub field-every : {P : ℕ → Type 0} → P 20 → P 21 → P 22 → (row : Row) (field : List ℕ) → Every P (field_faults row field)
unfolding field_faults
field-every p20 p21 p22 row field = with p20 (with p21 (with p22 (with p20 (with p22 all))))

pub field-numbered : (row : Row) (field : List ℕ) → Numbered (field_faults row field)
field-numbered row field = field-every refl refl refl row field

pub formed : (row : Row) (field : List ℕ) → Clear (field_faults row field) → Formed row field
unfolding field_faults
formed row field (passed e (passed f (passed g (passed h (passed k done))))) =
    let three = ltb-false (length field) 3 e in
    let enough = ltb-false (length field - 3) (length_of field) h in
    record {
      labelled = eqb-true (get_or field 0 0) row.label (not-false _ f);
      allowed = within row.least row.most (length_of field) g;
      whole = omega arith;
      bytes = k;
    }

-- the field then ends after its value
pub end_whole : (field : List ℕ) → 3 + length_of field ≤ length field → end_of field ≡ 3 + length_of field
unfolding end_of pick
end_whole field h = rw (le-ltb (length field) (3 + length_of field) h) refl

-- ---- one list of refusals after another

-- the first answers, and where it has no fault the second
pub in-turn : (fs gs : List Fault) → Numbered fs → first_of (fs ++ gs) ≡ cond (eqb (first_of fs) 0) (first_of gs) (first_of fs)
in-turn fs gs o =
    let n = first_of fs in
    cond_both (eqb n 0) (first_of gs) n (λ r. first_of (fs ++ gs) ≡ r) (λ e. first-append-clear fs gs o (eqb-true n 0 e)) (λ e. first-append fs gs (eqb-false n 0 e))

-- of a field: its row's faults, then others
pub row_first : (row : Row) (field : List ℕ) (gs : List Fault) → first_of (field_faults row field ++ gs) ≡ cond (eqb (first_of (field_faults row field)) 0) (first_of gs) (first_of (field_faults row field))
row_first row field gs = in-turn (field_faults row field) gs (field-numbered row field)

-- fault by fault
pub first_none : first_of [] ≡ 0
unfolding first_of
first_none = refl

pub first_more : (n : ℕ) (b : Bool) (fs : List Fault) → first_of (n given b ∷ fs) ≡ cond b n (first_of fs)
unfolding first_of pick
first_more n true fs = refl
first_more n false fs = refl

-- the number of a judgement, case by case
pub number_ok : (u : Unit {0}) → number_in (Ok u) ≡ 0
unfolding number_in
number_ok u = refl

pub number_err : (r : Refusal) → (number_in {A = Unit {0}} (Err r) ≡ refusal_number r) × (0 < refusal_number r)
unfolding number_in
number_err r = (refl, refusal-numbered r)

-- what judgements of a field, one after the other, come to
pub ruleset judged = (row_first, first_none, first_more, number_ok, number_err, common_steps)
