-- A slip without a fault in its fields: what is known of it, and where its fields stand. The four lists of refusals follow each
-- other, so what the checks found clear is taken apart once, here.
-- Assumes nothing.
use Rattle.std.proofs.Common.{◌≡◌, refl, false, List, ℕ, ◌+◌, ◌≤◌, arith, length, drop, length-take, ltb-false, eqb, cond}
use Rattle.bits.specs.Choice.{first_of}
use Rattle.bits.proofs.Lists.{take_rest}
use Rattle.bits.proofs.Faults.{clear-one, Every, all, with, Numbered, first-clear, clear-append, every_append}
use Rattle.fields.specs.Format.{expiry_row, lot_row, amount_row, seal_row}
use Rattle.fields.specs.Field.{length_of, end_of, field_faults}
use Rattle.fields.specs.Date.{year_of, month_of, day_of, date_wrong}
use Rattle.fields.specs.Layout.{places_of, lot_field_at, amount_at, seal_at, lot_field, amount_field, seal_field, covered, amount_of, amount_wrong, expiry_faults, lot_faults, amount_faults, seal_faults, layout_faults}
use Rattle.fields.proofs.Formed.{Formed, formed, field-every, end_whole, in-turn, number_ok, number_err}
use Rattle.fields.proofs.Inside.{lot-there, amount-there, seal-there}

-- ---- the numbers of the refusals: what holds of 20 to 24 holds of them all

module _ {P : ℕ → Type 0} (p20 : P 20) (p21 : P 21) (p22 : P 22) where
  expiry-every : P 23 → (field : List ℕ) → Every P (expiry_faults field)
  unfolding expiry_faults
  expiry-every p23 field = every_append (field-every p20 p21 p22 expiry_row field) (with p23 all)

  lot-every : (field : List ℕ) → Every P (lot_faults field)
  unfolding lot_faults
  lot-every field = field-every p20 p21 p22 lot_row field

  amount-every : (field : List ℕ) → Every P (amount_faults field)
  unfolding amount_faults
  amount-every field = every_append (field-every p20 p21 p22 amount_row field) (with p22 all)

  seal-every : P 24 → (field : List ℕ) → Every P (seal_faults field)
  unfolding seal_faults
  seal-every p24 field = every_append (field-every p20 p21 p22 seal_row field) (with p24 all)

  pub layout-every : P 23 → P 24 → (s : List ℕ) → Every P (layout_faults s)
  unfolding layout_faults
  layout-every p23 p24 s = every_append (expiry-every p23 s) (every_append (lot-every (lot_field s)) (every_append (amount-every (amount_field s)) (seal-every p24 (seal_field s))))

pub expiry-numbered : (field : List ℕ) → Numbered (expiry_faults field)
expiry-numbered field = expiry-every refl refl refl refl field

pub lot-numbered : (field : List ℕ) → Numbered (lot_faults field)
lot-numbered field = lot-every refl refl refl field

pub amount-numbered : (field : List ℕ) → Numbered (amount_faults field)
amount-numbered field = amount-every refl refl refl field

pub layout-numbered : (s : List ℕ) → Numbered (layout_faults s)
layout-numbered s = layout-every refl refl refl refl refl s

-- ---- the first of them, by those of the four fields at their places

pub layout_first : (s : List ℕ) → first_of (layout_faults s) ≡
    (let at = places_of s in
    let expiry = first_of (expiry_faults s) in
    let lot = first_of (field_faults lot_row (drop at.lot s)) in
    let amount = first_of (amount_faults (drop at.amount s)) in
    let seal = first_of (seal_faults (drop at.seal s)) in
    cond (eqb expiry 0) (cond (eqb lot 0) (cond (eqb amount 0) seal amount) lot) expiry)
unfolding layout_faults lot_faults places_of lot_field amount_field seal_field
layout_first s = rw (in-turn (expiry_faults s) _ (expiry-numbered s), in-turn (field_faults lot_row (lot_field s)) _ (lot-numbered (lot_field s)), in-turn (amount_faults (amount_field s)) _ (amount-numbered (amount_field s))) refl

-- which stand inside the slip
pub places_there : (s : List ℕ) → let at = places_of s in (at.lot ≤ length s) × (at.amount ≤ length s) × (at.seal ≤ length s)
unfolding places_of
places_there s = (lot-there s, amount-there s, seal-there s)

-- what the judgements of the fields, one after the other, come to
pub ruleset in_order = (layout_first, places_there, number_ok, number_err, take_rest)

-- ---- what is known

pub record LaidOut (s : List ℕ) : Type 0 where
  pub expiry : Formed expiry_row s
  pub date : date_wrong (year_of s) (month_of s) (day_of s) ≡ false
  pub lot : Formed lot_row (lot_field s)
  pub amount : Formed amount_row (amount_field s)
  pub microlitres : amount_wrong (amount_of (amount_field s)) ≡ false
  pub seal : Formed seal_row (seal_field s)
  pub ended : length (seal_field s) ≤ end_of (seal_field s)

pub laid_out : (s : List ℕ) → first_of (layout_faults s) ≡ 0 → LaidOut s
unfolding layout_faults expiry_faults lot_faults amount_faults seal_faults
laid_out s e =
    let all = first-clear (layout_faults s) (layout-numbered s) e in
    let in-expiry = clear-append (expiry_faults s) _ all in
    let in-lot = clear-append (lot_faults (lot_field s)) _ in-expiry.1 in
    let in-amount = clear-append (amount_faults (amount_field s)) (seal_faults (seal_field s)) in-lot.1 in
    let expiry = clear-append (field_faults expiry_row s) _ in-expiry.0 in
    let amount = clear-append (field_faults amount_row (amount_field s)) _ in-amount.0 in
    let seal = clear-append (field_faults seal_row (seal_field s)) _ in-amount.1 in
    record {
      expiry = formed expiry_row s expiry.0;
      date = clear-one expiry.1;
      lot = formed lot_row (lot_field s) in-lot.0;
      amount = formed amount_row (amount_field s) amount.0;
      microlitres = clear-one amount.1;
      seal = formed seal_row (seal_field s) seal.0;
      ended = ltb-false (end_of (seal_field s)) (length (seal_field s)) (clear-one seal.1);
    }

-- ---- where the fields stand

module _ (s : List ℕ) (ok : LaidOut s) where
  pub lot-place : lot_field_at s ≡ 11
  unfolding lot_field_at
  lot-place = omega (arith, end_whole s ok.expiry.whole, ok.expiry.allowed.low, ok.expiry.allowed.high)

  amount-place : amount_at s ≡ 14 + length_of (lot_field s)
  unfolding amount_at lot_field
  amount-place = omega (arith, lot-place, end_whole (lot_field s) ok.lot.whole)

  seal-place : seal_at s ≡ 21 + length_of (lot_field s)
  unfolding seal_at amount_field
  seal-place = omega (arith, amount-place, end_whole (amount_field s) ok.amount.whole, ok.amount.allowed.low, ok.amount.allowed.high)

  pub seal-most : seal_at s ≤ 53
  seal-most = omega (arith, seal-place, ok.lot.allowed.high)

  pub covered-length : length (covered s) ≡ 21 + length_of (lot_field s)
  unfolding covered
  covered-length = omega (arith, length-take (seal_at s) s, seal-there s, seal-place)

  -- the covered part has 22 bytes at least, and 53 at most
  pub covered-least : 22 ≤ length (covered s)
  covered-least = omega (arith, covered-length, ok.lot.allowed.low)

  pub covered-most : length (covered s) ≤ 53
  covered-most = omega (arith, covered-length, ok.lot.allowed.high)
