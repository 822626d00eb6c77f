-- What `read` and `read_under` rest on. The fields are refused first (`layout-refused`; as the code lays them out, `laid-refused`), then
-- an agreement that is not met (`unmet-refused`). After that the covered part has 22 to 53 bytes, so that of the refusals 7 to 10 of a
-- check only 10 can come (`check-first`), and the check's answer is turned into the slip's (`judged`; as the code asks it, `answered`).
-- And a slip that is not refused has none of these faults (`believed`).
-- Assumes nothing.
use mathlib.Core.Path.{◌≡◌, refl, sym, ap, ◌∙◌}
use mathlib.Core.Bool.{Bool, true, false, not}
use mathlib.Core.List.{List, [], ◌∷◌, ◌++◌, append_assoc}
use Prim.Native.Nat.{ℕ, zero, suc, ◌+◌, ◌-◌, ◌*◌, ◌≤◌}
use native.Mathlib.Omega.{arith}
use Rattle.std.specs.Prelude.{Ok, Err}
use lib.ListN.{length, take, drop, length-take, length-drop}
use lib.Seq.{drop-drop}
use lib.Dec.{eqb}
use borrow.Author.Tests.{ne_eqb}
use Rattle.bits.specs.Choice.{pick, Fault, ◌given◌, first_of}
use Rattle.bits.specs.Str.{same_row}
use Rattle.bits.proofs.Lists.{take_rest}
use Rattle.bits.proofs.Faults.{Clear, passed, done, all, with, Numbered, first-clear, clear_first, clear-append, first-append, first-append-clear, first-same, every_append}
use Rattle.refusals.specs.Number.{refusal_number, number_in}
use Rattle.refusals.specs.declared.Refusal.{Refusal}
use Rattle.refusals.proofs.Number.{refusal-numbered}
use Rattle.settings.specs.InUse.{agreement_faults}
use Rattle.settings.proofs.Sound.{agreement-numbered}
use Rattle.settings.specs.Answers.{settings_of, Told, Accepted, Made, Yes, No, Refused, told}
use Rattle.settings.specs.declared.Outcome.{Outcome}
use Rattle.settings.specs.declared.Outcome.TheVariants as outcome
use Rattle.message.specs.Faults.{tag_length_wrong}
use Rattle.tag.specs.OneCall.{one_call_faults, checked_by, check_of}
use Rattle.fields.specs.Layout.{places_of, seal_at, seal_field, covered, layout_faults, LayoutTold, layout_of, layout_told}
use Rattle.fields.specs.declared.Layout.{Layout}
use Rattle.fields.specs.declared.Places.{Places}
use Rattle.fields.proofs.Inside.{lot-there, amount-there, seal-there, part-from}
use Rattle.fields.proofs.Laid.{LaidOut, laid_out, layout-numbered, lot-place, seal-most, covered-least, covered-most}
use Rattle.fields.proofs.Whole.{seal-value}
use Rattle.slip.specs.Slip.{agreement_unmet, tag_named, seal_defined, seal_calls, seal_wrong, slip_faults, Reading, accepted_slip, refused_slip, read_of}
use Rattle.settings.specs.declared.Agreement.{Agreement}
use Rattle.slip.proofs.Seal.{only-ten}

-- ---- a slip whose fields are clear

-- after the fields comes what the seal names: another agreement is 25
pub unmet-first : (A : Agreement) (keys s : List ℕ) → first_of (layout_faults s) ≡ 0 → agreement_unmet A (seal_field s) ≡ true → first_of (slip_faults A keys s) ≡ 25
unfolding slip_faults first_of pick
unmet-first A keys s clear unmet = first-append-clear (layout_faults s) _ (layout-numbered s) clear ∙ rw unmet refl

-- the faults after it
abbrev pub seal_faults_under : Agreement → List ℕ → List ℕ → List Fault
seal_faults_under A keys s = agreement_faults A keys ++ (10 given tag_length_wrong A.m (length (tag_named s)) ∷ 30 given seal_wrong A s keys ∷ [])

-- where the agreement is met, these count
pub met-first : (A : Agreement) (keys s : List ℕ) → first_of (layout_faults s) ≡ 0 → agreement_unmet A (seal_field s) ≡ false → first_of (slip_faults A keys s) ≡ first_of (seal_faults_under A keys s)
unfolding slip_faults
met-first A keys s clear met =
    first-append-clear (layout_faults s) _ (layout-numbered s) clear
    ∙ first-append-clear (25 given agreement_unmet A (seal_field s) ∷ []) _ (with refl all) (clear_first (passed met done))

-- the bits that the seal covers
abbrev covered_bits : List ℕ → ℕ
covered_bits s = 8 * length (covered s)

module _ (s : List ℕ) where
  seal-bits : 8 * seal_at s ≡ covered_bits s
  unfolding covered
  seal-bits = omega (arith, length-take (seal_at s) s, seal-there s)

  module _ (A : Agreement) (keys : List ℕ) where
    -- the check's refusals without 7, 8 and 9
    abbrev seal_tests : List Fault
    seal_tests = agreement_faults A keys ++ (10 given tag_length_wrong A.m (length (tag_named s)) ∷ [])

    tests-numbered : Numbered seal_tests
    tests-numbered = every_append (agreement-numbered A keys) (with refl all)

    -- after the fields and what the seal names: the tests of the check, then 30
    slip-first : first_of (layout_faults s) ≡ 0 → agreement_unmet A (seal_field s) ≡ false → first_of (slip_faults A keys s) ≡ first_of (seal_tests ++ (30 given seal_wrong A s keys ∷ []))
    slip-first clear met =
        met-first A keys s clear met
        ∙ ap first_of (sym (append_assoc (agreement_faults A keys) (10 given tag_length_wrong A.m (length (tag_named s)) ∷ []) (30 given seal_wrong A s keys ∷ [])))

module _ (s : List ℕ) (ok : LaidOut s) where
  -- the seal field is whole, so its first six bytes are there
  seal-head-there : seal_at s + 6 ≤ length s
  unfolding seal_field
  seal-head-there = omega (arith, length-drop (seal_at s) s, ok.seal.whole, ok.seal.allowed.low)

  -- the tag's bytes are all that is left after them
  tag_is : drop (seal_at s + 6) s ≡ tag_named s
  unfolding tag_named seal_field
  tag_is = sym (ap (drop 3) (seal-value s ok) ∙ drop-drop 3 3 (seal_field s) ∙ drop-drop 6 (seal_at s) s)

  -- a check refuses as those tests do
  check-first : (A : Agreement) (keys : List ℕ) → first_of (one_call_faults A keys (length (covered s)) (covered_bits s) (tag_length_wrong A.m (length (tag_named s)))) ≡ first_of (seal_tests s A keys)
  unfolding one_call_faults
  check-first A keys =
      first-same (agreement_faults A keys) _ _
      (only-ten (settings_of A) (length (covered s)) (omega (arith, covered-least s ok)) (omega (arith, covered-most s ok)) (tag_length_wrong A.m (length (tag_named s))))

-- ---- a slip whose fields are clear, by the places that the code has found

module _ (s : List ℕ) (at : Places) (placed : at ≡ places_of s) (clear : first_of (layout_faults s) ≡ 0) where
  pub places_in : (at.lot ≡ 11) × (at.lot ≤ length s) × (at.amount ≤ length s) × (at.seal ≤ 53) × (at.seal + 6 ≤ length s)
  unfolding places_of
  places_in = let ok = laid_out s clear in rw placed (lot-place s ok, lot-there s, amount-there s, seal-most s ok, seal-head-there s ok)

-- for the checks of the functions that take them
pub ruleset placing = (places_in, take_rest, length-take)

-- ---- a slip that is refused

module _ (A : Agreement) (keys s : List ℕ) where
  -- the first fault's number, and zeros
  pub refused-by : (n : ℕ) → first_of (slip_faults A keys s) ≡ n → (n ≡ 0 → ⊥) → refused_slip n ≡ read_of A keys s
  unfolding read_of pick
  refused-by n e some = rw (e, ne_eqb n 0 some) refl

  -- the fields were refused: so is the slip
  pub layout-refused : (n : ℕ) → n ≡ first_of (layout_faults s) → (n ≡ 0 → ⊥) → refused_slip n ≡ read_of A keys s
  unfolding slip_faults
  layout-refused n e some = refused-by n (first-append (layout_faults s) _ (λ z. some (e ∙ z)) ∙ sym e) some

  -- they were not, and the seal names something else than agreed
  pub unmet-refused : first_of (layout_faults s) ≡ 0 → agreement_unmet A (seal_field s) ≡ true → refused_slip 25 ≡ read_of A keys s
  unmet-refused clear unmet = refused-by 25 (unmet-first A keys s clear unmet) (λ z. absurd (omega arith))

-- ---- the fields as the code lays them out

module _ (s : List ℕ) (l : Layout) (laid : layout_told l ≡ layout_of s) where
  pub laid-places : l.places ≡ places_of s
  unfolding layout_of
  laid-places = ap (λ (t : LayoutTold). t.places) laid

  laid-first : number_in l.judged ≡ first_of (layout_faults s)
  unfolding layout_of
  laid-first = ap (λ (t : LayoutTold). t.refusal) laid

  pub laid-refused : (A : Agreement) (keys : List ℕ) (r : Refusal) → l.judged ≡ Err r → refused_slip (refusal_number r) ≡ read_of A keys s
  unfolding number_in
  laid-refused A keys r e = layout-refused A keys s (refusal_number r) (rw e at laid-first) (λ z. absurd (omega (arith, refusal-numbered r)))

  pub laid-clear : (u : Unit {0}) → l.judged ≡ Ok u → first_of (layout_faults s) ≡ 0
  unfolding number_in
  laid-clear u e = sym (rw e at laid-first)

  -- the seal field as the code takes it
  pub laid-compared : (A : Agreement) → agreement_unmet A (seal_field s) ≡ agreement_unmet A (take (length s - l.places.seal) (drop l.places.seal s))
  unfolding places_of seal_field
  laid-compared A = ap (agreement_unmet A) (sym (part-from s l.places.seal (seal_at s) (ap (λ (p : Places). p.seal) laid-places)))

  pub laid-inside : l.places.seal ≤ length s
  unfolding places_of
  laid-inside = rw laid-places (seal-there s)

-- for the check of `read`
pub ruleset laying = (laid-inside)

-- ---- from the check's answer to the slip's

-- what the slip's answer is for each answer of the check
unfoldable pub verdict : List ℕ → Told → Reading
verdict s Accepted = refused_slip 30
verdict s (Made calls) = refused_slip 30
verdict s (Yes calls) = accepted_slip s calls
verdict s (No calls) = refused_slip 30
verdict s (Refused number) = refused_slip number

module _ (s : List ℕ) (clear : first_of (layout_faults s) ≡ 0) (A : Agreement) (keys : List ℕ) (met : agreement_unmet A (seal_field s) ≡ false) where
  ok : LaidOut s
  ok = laid_out s clear

  -- the check refused: the slip is refused with the same number
  check-refused : (n : ℕ) → n ≡ first_of (seal_tests s A keys) → (n ≡ 0 → ⊥) → refused_slip n ≡ read_of A keys s
  check-refused n e some = refused-by A keys s n (slip-first s A keys clear met ∙ first-append (seal_tests s A keys) _ (λ z. some (e ∙ z)) ∙ sym e) some

  -- the check was made: 30 where the seal is wrong, else the slip is accepted
  check-made : (same : Bool) → first_of (seal_tests s A keys) ≡ 0 → seal_wrong A s keys ≡ not same
      → pick same (accepted_slip s (seal_calls A s keys)) (refused_slip 30) ≡ read_of A keys s
  unfolding read_of pick first_of
  check-made same e w =
      let whole : first_of (slip_faults A keys s) ≡ pick (not same) 30 0 = slip-first s A keys clear met ∙ first-append-clear (seal_tests s A keys) _ (tests-numbered s A keys) e ∙ ap (λ (b : Bool). pick b 30 0) w in
      go same whole
    where
      go : (same : Bool) → first_of (slip_faults A keys s) ≡ pick (not same) 30 0
          → pick same (accepted_slip s (seal_calls A s keys)) (refused_slip 30) ≡ pick (eqb (first_of (slip_faults A keys s)) 0) (accepted_slip s (seal_calls A s keys)) (refused_slip (first_of (slip_faults A keys s)))
      go true e = rw e refl
      go false e = rw e refl

  abbrev same : Bool
  same = same_row (tag_named s) (seal_defined A s keys)

  by-fault : (n : ℕ) → first_of (one_call_faults A keys (length (covered s)) (covered_bits s) (tag_length_wrong A.m (length (tag_named s)))) ≡ n
      → verdict s (pick (eqb n 0) (pick same (Yes (seal_calls A s keys)) (No (seal_calls A s keys))) (Refused n)) ≡ read_of A keys s
  unfolding pick verdict seal_wrong
  by-fault zero e = yes_or_no same (seal_calls A s keys) ∙ check-made same (sym (check-first s ok A keys) ∙ e) refl
    where
      yes_or_no : (b : Bool) (n : ℕ) → verdict s (pick b (Yes n) (No n)) ≡ pick b (accepted_slip s n) (refused_slip 30)
      yes_or_no true n = refl
      yes_or_no false n = refl
  by-fault (suc n) e = rw (ne_eqb (suc n) 0 (λ z. absurd (omega arith))) (check-refused (suc n) (sym e ∙ check-first s ok A keys) (λ z. absurd (omega arith)))

  pub judged : verdict s (check_of A keys (covered s) (covered_bits s) (tag_named s)) ≡ read_of A keys s
  unfolding check_of checked_by seal_defined seal_calls
  judged = by-fault _ refl

-- ---- the check as the code asks it

-- an answer of the check that is no yes
pub not_yes : (s : List ℕ) (x : Outcome) → ((n : ℕ) → x ≡ outcome.Yes n → ⊥) → refused_slip 30 ≡ verdict s (told (Ok x))
unfolding told verdict
not_yes s outcome.Accepted none = refl
not_yes s (outcome.Made n) none = refl
not_yes s (outcome.Yes n) none = absurd (none n refl)
not_yes s (outcome.No n) none = refl

pub answered : (A : Agreement) (keys s : List ℕ) (at : Places) → (at ≡ places_of s) × (first_of (layout_faults s) ≡ 0) × (agreement_unmet A (seal_field s) ≡ false)
    → (x : Told) → x ≡ check_of A keys (take at.seal s) (8 * at.seal) (take (length s - (at.seal + 6)) (drop (at.seal + 6) s)) → verdict s x ≡ read_of A keys s
unfolding places_of covered
answered A keys s at asked x e =
    let here : x ≡ check_of A keys (covered s) (8 * seal_at s) (take (length s - (seal_at s + 6)) (drop (seal_at s + 6) s)) = rw asked.0 at e in
    ap (verdict s) (here ∙ λ i. check_of A keys (covered s) (seal-bits s i) ((take_rest (seal_at s + 6) s ∙ tag_is s (laid_out s asked.1)) i)) ∙ judged s asked.1 A keys asked.2

-- ---- a slip that is not refused

pub record Believed (A : Agreement) (keys s : List ℕ) : Type 0 where
  pub fields : LaidOut s
  pub names : agreement_unmet A (seal_field s) ≡ false
  pub settings : first_of (agreement_faults A keys) ≡ 0
  pub seal : seal_wrong A s keys ≡ false

slip-numbered : (A : Agreement) (keys s : List ℕ) → Numbered (slip_faults A keys s)
unfolding slip_faults
slip-numbered A keys s = every_append (layout-numbered s) (with refl (every_append (agreement-numbered A keys) (with refl (with refl all))))

pub believed : (A : Agreement) (keys s : List ℕ) → first_of (slip_faults A keys s) ≡ 0 → Believed A keys s
unfolding slip_faults
believed A keys s e =
    let all = clear-append (layout_faults s) _ (first-clear (slip_faults A keys s) (slip-numbered A keys s) e) in
    after-fields (laid_out s (clear_first all.0)) all.1
  where
    last : LaidOut s → agreement_unmet A (seal_field s) ≡ false → first_of (agreement_faults A keys) ≡ 0 → Clear (10 given tag_length_wrong A.m (length (tag_named s)) ∷ 30 given seal_wrong A s keys ∷ []) → Believed A keys s
    last ok met sound (passed e (passed f done)) = record { fields = ok; names = met; settings = sound; seal = f }

    after-fields : LaidOut s → Clear (25 given agreement_unmet A (seal_field s) ∷ seal_faults_under A keys s) → Believed A keys s
    after-fields ok (passed met rest) = let both = clear-append (agreement_faults A keys) _ rest in last ok met (clear_first both.0) both.1
