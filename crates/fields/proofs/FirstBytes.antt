-- The first 76 bytes settle what the fields are refused for. Two slips that both go on for 76 bytes and agree in these are read
-- alike field by field: label and length are three bytes, an allowed length is cut short in neither, so values and next fields agree
-- too. And a slip whose fields are clear has 75 bytes at most (`longest`), so a program need not read more of a slip than 76.
-- Assumes nothing.
use Rattle.std.proofs.Common.{◌≡◌, refl, sym, ap, ◌∙◌, subst₂, Bool, true, false, not, List, [], ◌∷◌, ◌++◌, ℕ, zero, suc, ◌+◌, ◌-◌, ◌≤◌, ◌<◌, arith, length, take, drop, get_or, length-drop, get_or-take, take-take, eqb, ltb, lt-ltb, le-ltb}
use Rattle.bits.specs.Choice.{pick, Fault, ◌given◌, first_of}
use Rattle.bits.proofs.Lists.{drop-take}
use Rattle.bits.proofs.Faults.{Numbered, first-clear, first-append, first-append-clear, first-front}
use Rattle.fields.specs.Format.{expiry_row, lot_row, amount_row, seal_row}
use Rattle.fields.specs.Field.{outside, any_outside, two_bytes, length_of, value, end_of, field_faults}
use Rattle.fields.specs.Date.{digit_at, two_digits, year_of, month_of, day_of}
use Rattle.fields.specs.Layout.{lot_field_at, lot_field, amount_field, seal_field, amount_of, expiry_faults, lot_faults, amount_faults, seal_faults, layout_faults}
use Rattle.fields.specs.declared.Row.{Row}
use Rattle.fields.proofs.Formed.{within, formed, field-numbered, end_whole}
use Rattle.fields.proofs.Inside.{seal-long}
use Rattle.fields.proofs.Laid.{LaidOut, expiry-numbered, lot-numbered, amount-numbered, seal-most}
use Rattle.fields.proofs.Whole.{after-lot, after-amount}

-- ---- two lists of refusals, each followed by another

-- the first ones refuse alike, and where they are clear so do the second ones
then_same : (fs fs' gs gs' : List Fault) → Numbered fs → Numbered fs' → first_of fs ≡ first_of fs' → (first_of fs ≡ 0 → first_of gs ≡ first_of gs') → first_of (fs ++ gs) ≡ first_of (fs' ++ gs')
then_same fs fs' gs gs' o o' e rest = go (first_of fs) refl
  where
    go : (n : ℕ) → first_of fs ≡ n → first_of (fs ++ gs) ≡ first_of (fs' ++ gs')
    go zero z = first-append-clear fs gs o z ∙ rest z ∙ sym (first-append-clear fs' gs' o' (sym e ∙ z))
    go (suc n) z = first-append fs gs (λ c. absurd (omega arith)) ∙ e ∙ sym (first-append fs' gs' (λ c. absurd (omega arith)))

-- a field that is clear names no length over the most
length_most : (row : Row) (field : List ℕ) → first_of (field_faults row field) ≡ 0 → length_of field ≤ row.most
length_most row field e = (formed row field (first-clear (field_faults row field) (field-numbered row field) e)).allowed.high

-- ---- the same first bytes

-- both go on for n bytes, and these are the same
pub record Alike (n : ℕ) (f g : List ℕ) : Type 0 where
  pub left : n ≤ length f
  pub right : n ≤ length g
  pub same : take n f ≡ take n g

module _ (n : ℕ) (f g : List ℕ) (alike : Alike n f g) where
  pub byte-alike : (i : ℕ) → i < n → get_or f i 0 ≡ get_or g i 0
  byte-alike i h = sym (get_or-take n f i 0 h) ∙ ap (λ (l : List ℕ). get_or l i 0) alike.same ∙ get_or-take n g i 0 h

  pub bytes-alike : (i : ℕ) → i + 1 < n → two_bytes f i ≡ two_bytes g i
  unfolding two_bytes
  bytes-alike i h = rw (byte-alike i (omega arith), byte-alike (i + 1) h) refl

  pub digits-alike : (i : ℕ) → i + 1 < n → two_digits f i ≡ two_digits g i
  unfolding two_digits digit_at
  digits-alike i h = rw (byte-alike i (omega arith), byte-alike (i + 1) h) refl

  -- what is left from the same place on
  from-alike : (at k : ℕ) → at + k ≤ n → Alike k (drop at f) (drop at g)
  from-alike at k h = record {
    left = omega (arith, length-drop at f, alike.left);
    right = omega (arith, length-drop at g, alike.right);
    same = sym (drop-take at k f) ∙ ap (drop at) (sym (take-take (at + k) n f h) ∙ ap (take (at + k)) alike.same ∙ take-take (at + k) n g h) ∙ drop-take at k g;
  }

  -- ---- a field

  pub length-alike : 3 ≤ n → length_of f ≡ length_of g
  unfolding length_of
  length-alike h = bytes-alike 1 (omega arith)

  pub value-alike : 3 + length_of f ≤ n → value f ≡ value g
  unfolding value
  value-alike h = (from-alike 3 (length_of f) h).same ∙ ap (λ (k : ℕ). take k (drop 3 g)) (length-alike (omega arith))

  row-alike : (row : Row) → 3 + row.most ≤ n → first_of (field_faults row f) ≡ first_of (field_faults row g)
  unfolding field_faults first_of pick
  row-alike row h =
      rw (le-ltb (length f) 3 (omega (arith, alike.left)), le-ltb (length g) 3 (omega (arith, alike.right)), byte-alike 0 (omega arith), length-alike (omega arith))
      (ap (pick (not (eqb (get_or g 0 0) row.label)) 21) (go (outside row.least row.most (length_of g)) refl))
    where
      go : (b : Bool) → outside row.least row.most (length_of g) ≡ b
          → first_of (22 given b ∷ 20 given ltb (length f - 3) (length_of g) ∷ 22 given any_outside row.low row.high (value f) ∷ [])
          ≡ first_of (22 given b ∷ 20 given ltb (length g - 3) (length_of g) ∷ 22 given any_outside row.low row.high (value g) ∷ [])
      go true e = refl
      go false e =
          let high = (within row.least row.most (length_of g) e).high in
          let long : length_of f ≡ length_of g = length-alike (omega arith) in
          rw (le-ltb (length f - 3) (length_of g) (omega (arith, alike.left)), le-ltb (length g - 3) (length_of g) (omega (arith, alike.right)), value-alike (omega arith)) refl

  -- the refusals that the row gives, and others after them that are alike where the length is allowed
  field_alike : (row : Row) (fs gs : List Fault) → 3 + row.most ≤ n → (length_of f ≤ row.most → first_of fs ≡ first_of gs)
      → first_of (field_faults row f ++ fs) ≡ first_of (field_faults row g ++ gs)
  field_alike row fs gs h rest =
      then_same (field_faults row f) (field_faults row g) fs gs (field-numbered row f) (field-numbered row g) (row-alike row h)
      (λ e. rest (length_most row f e))

  -- the field is whole in both where the one is clear: the next one begins at the same place
  next-alike : (row : Row) (k : ℕ) → 3 + row.most + k ≤ n → first_of (field_faults row f) ≡ 0 → Alike k (drop (end_of f) f) (drop (end_of g) g)
  next-alike row k h e =
      let high = length_most row f e in
      let long : length_of f ≡ length_of g = length-alike (omega arith) in
      let end-f : end_of f ≡ 3 + length_of f = end_whole f (omega (arith, alike.left)) in
      let end-g : end_of g ≡ 3 + length_of f = omega (arith, end_whole g (omega (arith, alike.right))) in
      rw (end-f, end-g) (from-alike (3 + length_of f) k (omega arith))

  -- ---- the four fields

  expiry-alike : 11 ≤ n → first_of (expiry_faults f) ≡ first_of (expiry_faults g)
  unfolding expiry_faults year_of month_of day_of
  expiry-alike h =
      field_alike expiry_row _ _ h
      (λ allowed. rw (digits-alike 3 (omega arith), digits-alike 5 (omega arith), digits-alike 7 (omega arith), digits-alike 9 (omega arith)) refl)

  lot-alike : 35 ≤ n → first_of (lot_faults f) ≡ first_of (lot_faults g)
  unfolding lot_faults
  lot-alike h = row-alike lot_row h

  amount-alike : 7 ≤ n → first_of (amount_faults f) ≡ first_of (amount_faults g)
  unfolding amount_faults amount_of
  amount-alike h = field_alike amount_row _ _ h (λ allowed. rw (bytes-alike 3 (omega arith), bytes-alike 5 (omega arith)) refl)

  -- a seal of 22 bytes at most, and a byte after it
  seal-alike : 23 ≤ n → first_of (seal_faults f) ≡ first_of (seal_faults g)
  unfolding seal_faults
  seal-alike h =
      field_alike seal_row _ _ (omega arith)
      (λ allowed.
      let long : length_of f ≡ length_of g = length-alike (omega arith) in
      let over-f : end_of f < length f = omega (arith, end_whole f (omega (arith, alike.left)), alike.left) in
      let over-g : end_of g < length g = omega (arith, end_whole g (omega (arith, alike.right)), alike.right) in
      rw (lt-ltb (end_of f) (length f) over-f, lt-ltb (end_of g) (length g) over-g) refl)

-- ---- the slip

module _ (s t : List ℕ) where
  lot-next : Alike 76 s t → first_of (expiry_faults s) ≡ 0 → Alike 65 (lot_field s) (lot_field t)
  unfolding expiry_faults lot_field lot_field_at
  lot-next alike e = next-alike 76 s t alike expiry_row 65 (omega arith) (first-front (field_faults expiry_row s) _ e)

  amount-next : Alike 65 (lot_field s) (lot_field t) → first_of (lot_faults (lot_field s)) ≡ 0 → Alike 30 (amount_field s) (amount_field t)
  unfolding lot_faults
  amount-next alike e = subst₂ (Alike 30) (after-lot s) (after-lot t) (next-alike 65 (lot_field s) (lot_field t) alike lot_row 30 (omega arith) e)

  seal-next : Alike 30 (amount_field s) (amount_field t) → first_of (amount_faults (amount_field s)) ≡ 0 → Alike 23 (seal_field s) (seal_field t)
  unfolding amount_faults
  seal-next alike e = subst₂ (Alike 23) (after-amount s) (after-amount t) (next-alike 30 (amount_field s) (amount_field t) alike amount_row 23 (omega arith) (first-front (field_faults amount_row (amount_field s)) _ e))

-- 76 bytes are 11 of the expiry, 35 of the longest lot, 7 of the amount, 22 of the longest seal, and one more
pub layout-alike : (s t : List ℕ) → Alike 76 s t → first_of (layout_faults s) ≡ first_of (layout_faults t)
unfolding layout_faults
layout-alike s t from-expiry =
    then_same (expiry_faults s) (expiry_faults t) _ _ (expiry-numbered s) (expiry-numbered t) (expiry-alike 76 s t from-expiry (omega arith)) (λ e.
    let from-lot = lot-next s t from-expiry e in
    then_same (lot_faults (lot_field s)) (lot_faults (lot_field t)) _ _ (lot-numbered _) (lot-numbered _) (lot-alike 65 _ _ from-lot (omega arith)) (λ e.
    let from-amount = amount-next s t from-lot e in
    then_same (amount_faults (amount_field s)) (amount_faults (amount_field t)) _ _ (amount-numbered _) (amount-numbered _) (amount-alike 30 _ _ from-amount (omega arith)) (λ e.
    seal-alike 23 _ _ (seal-next s t from-amount e) (omega arith))))

-- no byte comes after a seal of 22 bytes at most, which begins at byte 53 at the latest
pub longest : (s : List ℕ) → LaidOut s → length s ≤ 75
longest s ok = omega (arith, seal-long s, seal-most s ok, ok.ended, end_whole (seal_field s) ok.seal.whole, ok.seal.allowed.high)
