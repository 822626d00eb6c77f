-- A slip without a fault in its fields, and another that is a beginning of it or goes on after it. The fields that lie whole in both
-- are read alike, one after the other; so a slip cut anywhere is cut short at one of its fields, 20 (`layout-cut`), and of a longer one
-- all fields are right and there are bytes after the seal, 24 (`layout-long`).
-- Assumes nothing.
use Rattle.std.proofs.Common.{◌≡◌, refl, sym, ap, ◌∙◌, subst₂, Bool, true, false, not, List, [], ◌∷◌, ◌++◌, append-nil, ℕ, ◌+◌, ◌-◌, ◌≤◌, ◌<◌, arith, length, take, drop, get_or, length-drop, take-take, eqb, leb, lt-ltb, le-ltb, eq-eqb, leb-true, leb-false}
use Rattle.bits.specs.Choice.{Fault, ◌given◌, first_of}
use Rattle.bits.proofs.Lists.{drop-take}
use Rattle.bits.proofs.Faults.{all, with, Numbered, here, later, given-first, passed, done, clear_first, first-append, first-append-clear, every_append}
use Rattle.fields.specs.Format.{expiry_row, lot_row, amount_row, seal_row}
use Rattle.fields.specs.Field.{outside, any_outside, two_bytes, length_of, end_of, field_faults}
use Rattle.fields.specs.Date.{two_digits, year_of, month_of, day_of, date_wrong}
use Rattle.fields.specs.Layout.{lot_field_at, lot_field, amount_field, seal_field, amount_of, amount_wrong, expiry_faults, lot_faults, amount_faults, seal_faults, layout_faults}
use Rattle.fields.specs.declared.Row.{Row}
use Rattle.fields.proofs.Formed.{inside, Formed, field-numbered, end_whole}
use Rattle.fields.proofs.Laid.{LaidOut}
use Rattle.fields.proofs.Whole.{after-lot, after-amount}
use Rattle.fields.proofs.FirstBytes.{Alike, byte-alike, bytes-alike, digits-alike, length-alike, value-alike}

-- one of the two is a beginning of the other
abbrev pub Along : List ℕ → List ℕ → Type 0
Along f g = take (length g) f ≡ take (length f) g

module _ (f g : List ℕ) (along : Along f g) where
  -- they agree as far as both go
  along-alike : (n : ℕ) → n ≤ length f → n ≤ length g → Alike n f g
  along-alike n hf hg = record {
    left = hf;
    right = hg;
    same = sym (take-take n (length g) f hg) ∙ ap (take n) along ∙ take-take n (length f) g hf;
  }

  -- and so do they from the same place on
  along-from : (e : ℕ) → e ≤ length f → e ≤ length g → Along (drop e f) (drop e g)
  along-from e hf hg =
      let left : e + length (drop e g) ≡ length g = omega (arith, length-drop e g) in
      let right : length f ≡ e + length (drop e f) = omega (arith, length-drop e f) in
      sym (drop-take e (length (drop e g)) f) ∙ ap (λ (k : ℕ). drop e (take k f)) left ∙ ap (drop e) along
      ∙ ap (λ (k : ℕ). drop e (take k g)) right ∙ drop-take e (length (drop e f)) g

-- ---- one field

module _ (row : Row) (f g : List ℕ) (ok : Formed row f) (along : Along f g) where
  -- the field lies whole in the second too
  abbrev There : Type 0
  There = 3 + length_of f ≤ length g

  alike : There → Alike (3 + length_of f) f g
  alike there = along-alike f g along (3 + length_of f) ok.whole there

  -- what is judged of a field before its length is
  head-right : 3 ≤ length g → (length_of f ≡ length_of g) × ((not (eqb (get_or g 0 0) row.label) ≡ false) × (outside row.least row.most (length_of g) ≡ false))
  head-right three =
      let head = along-alike f g along 3 (omega (arith, ok.whole)) three in
      let long = length-alike 3 f g head (omega arith) in
      let label = sym (byte-alike 3 f g head 0 (omega arith)) ∙ ok.labelled in
      (long, (ap not (eq-eqb (get_or g 0 0) row.label label), ap (outside row.least row.most) (sym long) ∙ inside row.least row.most (length_of f) ok.allowed))

  -- cut in its head or in its value
  cut : length g < 3 + length_of f → first_of (field_faults row g) ≡ 20
  unfolding field_faults
  cut short = go (leb 3 (length g)) refl
    where
      go : (b : Bool) → leb 3 (length g) ≡ b → first_of (field_faults row g) ≡ 20
      go false e = given-first (here (lt-ltb (length g) 3 (leb-false 3 (length g) e)))
      go true e =
          let three = leb-true 3 (length g) e in
          let head = head-right three in
          given-first
          (later (le-ltb (length g) 3 three) (later head.1.0 (later head.1.1 (here (lt-ltb (length g - 3) (length_of g) (omega (arith, head.0)))))))

  -- whole: no fault of the row
  clear : There → first_of (field_faults row g) ≡ 0
  unfolding field_faults
  clear there =
      let three : 3 ≤ length g = omega arith in
      let head = head-right three in
      let same = value-alike (3 + length_of f) f g (alike there) (omega arith) in
      clear_first
      (passed (le-ltb (length g) 3 three)
      (passed head.1.0
      (passed head.1.1
      (passed (le-ltb (length g - 3) (length_of g) (omega (arith, head.0)))
      (passed (ap (any_outside row.low row.high) (sym same) ∙ ok.bytes) done)))))

  -- and it ends at the same place
  end-alike : There → end_of g ≡ end_of f
  end-alike there =
      let long = (head-right (omega arith)).0 in
      omega (arith, end_whole g (omega (arith, long)), end_whole f ok.whole)

  next : There → Along (drop (end_of f) f) (drop (end_of g) g)
  next there =
      let end = end_whole f ok.whole in
      rw (end-alike there) (along-from f g along (end_of f) (omega (arith, ok.whole)) (omega arith))

  -- the faults of the field, which are its row's and its own, and those after it
  then_next : (own rest : List Fault) (n : ℕ) → Numbered own → (length g < 3 + length_of f → n ≡ 20) → (There → first_of own ≡ 0) → (There → first_of rest ≡ n)
      → first_of ((field_faults row g ++ own) ++ rest) ≡ n
  then_next own rest n o short good after = go (leb (3 + length_of f) (length g)) refl
    where
      go : (b : Bool) → leb (3 + length_of f) (length g) ≡ b → first_of ((field_faults row g ++ own) ++ rest) ≡ n
      go true e =
          let there = leb-true (3 + length_of f) (length g) e in
          first-append-clear (field_faults row g ++ own) rest (every_append (field-numbered row g) o) (first-append-clear (field_faults row g) own (field-numbered row g) (clear there) ∙ good there)
          ∙ after there
      go false e =
          let missing = leb-false (3 + length_of f) (length g) e in
          let mine : first_of (field_faults row g ++ own) ≡ 20 = first-append (field_faults row g) own (λ z. absurd (omega (arith, cut missing))) ∙ cut missing in
          first-append (field_faults row g ++ own) rest (λ z. absurd (omega (arith, mine))) ∙ mine ∙ sym (short missing)

-- ---- the fields' own tests

module _ (f g : List ℕ) (along : Along f g) where
  date-alike : (ok : Formed expiry_row f) → There expiry_row f g ok along → date_wrong (year_of f) (month_of f) (day_of f) ≡ false
      → first_of (23 given date_wrong (year_of g) (month_of g) (day_of g) ∷ []) ≡ 0
  unfolding year_of month_of day_of
  date-alike ok there right =
      let at : (i : ℕ) → i + 1 < 11 → two_digits f i ≡ two_digits g i = λ i h. digits-alike (3 + length_of f) f g (alike expiry_row f g ok along there) i (omega (arith, ok.allowed.low)) in
      clear_first (passed (rw (at 3 (omega arith), at 5 (omega arith), at 7 (omega arith), at 9 (omega arith)) at right) done)

  amount-alike : (ok : Formed amount_row f) → There amount_row f g ok along → amount_wrong (amount_of f) ≡ false → first_of (22 given amount_wrong (amount_of g) ∷ []) ≡ 0
  unfolding amount_of
  amount-alike ok there right =
      let at : (i : ℕ) → i + 1 < 7 → two_bytes f i ≡ two_bytes g i = λ i h. bytes-alike (3 + length_of f) f g (alike amount_row f g ok along there) i (omega (arith, ok.allowed.low)) in
      clear_first (passed (rw (at 3 (omega arith), at 5 (omega arith)) at right) done)

-- ---- the seal, the last field

module _ (f g : List ℕ) (ok : Formed seal_row f) (along : Along f g) (ended : length f ≤ end_of f) where
  seal-cut : length g < length f → first_of (seal_faults g) ≡ 20
  unfolding seal_faults
  seal-cut short =
      let twenty = cut seal_row f g ok along (omega (arith, ended, end_whole f ok.whole)) in
      first-append (field_faults seal_row g) _ (λ z. absurd (omega (arith, twenty))) ∙ twenty

  seal-long : length f < length g → first_of (seal_faults g) ≡ 24
  unfolding seal_faults
  seal-long long =
      let there : There seal_row f g ok along = omega (arith, ok.whole) in
      let end : end_of g < length g = omega (arith, end-alike seal_row f g ok along there, end_whole f ok.whole, ok.whole) in
      first-append-clear (field_faults seal_row g) _ (field-numbered seal_row g) (clear seal_row f g ok along there) ∙ given-first (here (lt-ltb (end_of g) (length g) end))

-- ---- the slip

module _ (s t : List ℕ) (ok : LaidOut s) where
  -- what is left of both from the same place on
  record Beside (f g : List ℕ) : Type 0 where
    pub along : Along f g
    pub shift : length g + length s ≡ length f + length t

  beside-next : (row : Row) (f g : List ℕ) (formed : Formed row f) (at : Beside f g) → There row f g formed at.along → Beside (drop (end_of f) f) (drop (end_of g) g)
  beside-next row f g formed at there = record {
    along = next row f g formed at.along there;
    shift = omega (arith, length-drop (end_of f) f, length-drop (end_of g) g, end-alike row f g formed at.along there, end_whole f formed.whole, formed.whole, at.shift);
  }

  lot-beside : (at : Beside s t) → There expiry_row s t ok.expiry at.along → Beside (lot_field s) (lot_field t)
  unfolding lot_field lot_field_at
  lot-beside at there = beside-next expiry_row s t ok.expiry at there

  amount-beside : (at : Beside (lot_field s) (lot_field t)) → There lot_row (lot_field s) (lot_field t) ok.lot at.along → Beside (amount_field s) (amount_field t)
  amount-beside at there = subst₂ Beside (after-lot s) (after-lot t) (beside-next lot_row (lot_field s) (lot_field t) ok.lot at there)

  seal-beside : (at : Beside (amount_field s) (amount_field t)) → There amount_row (amount_field s) (amount_field t) ok.amount at.along → Beside (seal_field s) (seal_field t)
  seal-beside at there = subst₂ Beside (after-amount s) (after-amount t) (beside-next amount_row (amount_field s) (amount_field t) ok.amount at there)

  -- a number that is 20 where the second is the shorter one and is what its seal gets where that begins: it is what the slip gets
  layout-by : Along s t → (n : ℕ) → (length t < length s → n ≡ 20) → (Beside (seal_field s) (seal_field t) → first_of (seal_faults (seal_field t)) ≡ n) → first_of (layout_faults t) ≡ n
  unfolding layout_faults expiry_faults lot_faults amount_faults
  layout-by along n short last =
      let both : Beside s t = record { along = along; shift = omega arith } in
      then_next expiry_row s t ok.expiry along _ _ n (with refl all) (λ h. short (omega (arith, ok.expiry.whole)))
      (λ there. date-alike s t along ok.expiry there ok.date) (λ there.
      let lot = lot-beside both there in
      ap (λ (fs : List Fault). first_of (fs ++ (amount_faults (amount_field t) ++ seal_faults (seal_field t)))) (sym (append-nil (field_faults lot_row (lot_field t))))
      ∙ then_next lot_row (lot_field s) (lot_field t) ok.lot lot.along [] _ n all (λ h. short (omega (arith, ok.lot.whole, lot.shift)))
      (λ there. clear_first done) (λ there.
      let amount = amount-beside lot there in
      then_next amount_row (amount_field s) (amount_field t) ok.amount amount.along _ _ n (with refl all) (λ h. short (omega (arith, ok.amount.whole, amount.shift)))
      (λ there. amount-alike (amount_field s) (amount_field t) amount.along ok.amount there ok.microlitres) (λ there.
      last (seal-beside amount there))))

  -- cut anywhere
  pub layout-cut : Along s t → length t < length s → first_of (layout_faults t) ≡ 20
  layout-cut along short = layout-by along 20 (λ h. refl) (λ at. seal-cut (seal_field s) (seal_field t) ok.seal at.along ok.ended (omega (arith, at.shift)))

  -- and gone on after
  pub layout-long : Along s t → length s < length t → first_of (layout_faults t) ≡ 24
  layout-long along long = layout-by along 24 (λ h. absurd (omega arith)) (λ at. seal-long (seal_field s) (seal_field t) ok.seal at.along ok.ended (omega (arith, at.shift)))
