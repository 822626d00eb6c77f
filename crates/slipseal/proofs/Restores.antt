-- A restored block through C, said of every answer that the contracts of `slipseal_restore` and `slipseal_check` allow, in the words
-- that crate tag has for `restore`, with the number 0 for a filled block.
--
-- `c-restore-number`: the number is that of the first fault, and 0 where there is none; `c-restore-seven`: under algorithm 7 it is 3, or
--     2 where the padding is not 4.
-- `c-restore-outside`: no byte outside the block changes, whatever the answer; `c-restore-untouched`: nor any byte in a refusal.
-- `c-restore-checks`: after a 0 `slipseal_check` with the same inputs says yes; `c-restore-only`: to no other bytes in that block.
-- `c-restore-whatever`: what the block held has no influence.
-- `c-restore-back`: out of a tag that `slipseal_check` says yes to, a block of the message that is lost comes back.
-- Assumes nothing.
use Rattle.std.proofs.Common.{◌≡◌, refl, sym, ap, ◌∙◌, subst, Bool, true, false, List, [], ◌∷◌, ℕ, suc, ◌*◌, ◌≤◌, ◌<◌, arith, length, get_or, eqb-true}
use contract.Lifetimes.{Lfts}
use borrow.Fn.Kinds.{Dens}
use Rattle.bits.specs.Choice.{pick, ◌given◌, first_of}
use Rattle.bits.specs.Once.{Allowed}
use Rattle.bits.proofs.Same.{same_row-eq}
use Rattle.mac.specs.Tag.{bits_of}
use Rattle.settings.specs.InUse.{in_use}
use Rattle.settings.specs.Answers.{Yes, No, Refused, number_of}
use Rattle.settings.specs.Faults.{padding_wrong}
use Rattle.settings.specs.declared.Agreement.{Agreement}
use Rattle.tag.specs.OneCall.{tag_at, checked_by, check_of}
use Rattle.tag.specs.Restore.{with_block, restore_of}
use Rattle.tag.proofs.Numbers.{tagged, CheckAt, check_fault}
use Rattle.tag.proofs.Full.{n, size}
use Rattle.tag.proofs.BlockBytes.{Outside}
use Rattle.tag.proofs.RestoreOrder.{order-seven}
use Rattle.tag.proofs.RestoredBlock.{restore_fault, restore-faults, refused-of, left, left-outside, left-checks, left-only, same-fault, whatever-of, back-accepted, back-of}
use Rattle.tag.proofs.RestoreAnswers.{RestoreAt}
use Rattle.slipseal.specs.declared.Answer.{Answer}
use Rattle.slipseal.specs.Border.{yes_of, told_of, told_restored}
use Rattle.slipseal.proofs.AsAgreed.{as_check, as_restore}
use Rattle.slipseal.proofs.CheckRuns.{Checking}
use Rattle.slipseal.proofs.slipseal_check.Kinds as check-k
use Rattle.slipseal.proofs.slipseal_restore.Kinds as restore-k
use Rattle.slipseal.proofs.slipseal_restore.Reads as restore

-- ---- what `slipseal_check` says

module _ (λs : Lfts 3) (b : Dens λs check-k.ps) (z : Checking λs b) {A : Agreement} {s m : List ℕ} {l : ℕ} {t : List ℕ} (at : CheckAt λs (as_check λs b) A s m l t) where
  check-at : z.result ≡ told_of (check_of A s m l t)
  check-at = z.ensures ∙ (λ i. told_of (check_of (at.agreed i) (at.keyed i) (at.lent i) (at.counted i) (at.offered i)))

-- only a yes is told as one
yes-told : (b d : Bool) (calls number : ℕ) → yes_of (pick b (pick d (Yes calls) (No calls)) (Refused number)) ≡ 1 → (b ≡ true) × (d ≡ true)
unfolding pick
yes-told true true calls number e = (refl, refl)
yes-told true false calls number e = absurd (omega arith)
yes-told false d calls number e = absurd (omega arith)

yes-means : (A : Agreement) (s m : List ℕ) (l : ℕ) (t : List ℕ) → (told_of (check_of A s m l t)).yes ≡ 1 → (check_fault A s m l t ≡ 0) × (t ≡ tagged A (in_use A s) (bits_of m l))
unfolding told_of check_of checked_by tag_at
yes-means A s m l t e = let both = yes-told _ _ _ _ e in (eqb-true _ 0 both.0, same_row-eq t _ both.1)

-- ---- one call

abbrev pub Restoring : (κs : Lfts 3) → Dens κs restore-k.ps → Type 0
Restoring κs a = Allowed restore-k.ps restore-k.r restore.Learnt κs a

module _ (κs : Lfts 3) (a : Dens κs restore-k.ps) (x : Restoring κs a) where
  -- the message at the end
  abbrev pub message_left : List ℕ
  message_left = x.last.1.1.0

  module _ {A : Agreement} {s message : List ℕ} {l j : ℕ} {t : List ℕ} (at : RestoreAt κs (as_restore κs a) A s message l j t) where
    answer_at : (x.result, message_left) ≡ told_restored (restore_of A s message l j t)
    answer_at = x.ensures ∙ (λ i. told_restored (restore_of (at.agreed i) (at.keyed i) (at.lent i) (at.counted i) (at.numbered i) (at.offered i)))

    pub c-restore-number : x.result ≡ restore_fault A s message l j t
    unfolding told_restored
    c-restore-number = ap (λ (r : ℕ × List ℕ). r.0) answer_at ∙ restore-faults A s message l j t

    pub c-restore-seven : A.algorithm ≡ 7 → x.result ≡ first_of (2 given padding_wrong 7 A.padding ∷ 3 given true ∷ [])
    c-restore-seven e = c-restore-number ∙ order-seven A s (length message) l j (length t) e

    left_is : message_left ≡ left A s message l j t
    unfolding told_restored
    left_is = ap (λ (r : ℕ × List ℕ). r.1) answer_at

    pub c-restore-untouched : ¬ (x.result ≡ 0) → message_left ≡ message
    c-restore-untouched h = left_is ∙ ap (λ (r : _ × List ℕ). r.1) (refused-of A s message l j t (λ e. h (c-restore-number ∙ e)))

    pub c-restore-outside : Outside j message_left message
    c-restore-outside = subst (λ (m : List ℕ). Outside j m message) (sym left_is) (left-outside A s message l j t)

    module _ (filled : x.result ≡ 0) where
      none : restore_fault A s message l j t ≡ 0
      none = sym c-restore-number ∙ filled

      pub c-restore-checks : ((i : ℕ) → get_or t i 0 < 256) → (λs : Lfts 3) (b : Dens λs check-k.ps) (z : Checking λs b) → CheckAt λs (as_check λs b) A s message_left l t
          → (z.result.number ≡ 0) × (z.result.yes ≡ 1)
      unfolding told_of number_of
      c-restore-checks bytes λs b z bt =
          let says = check-at λs b z bt ∙ ap told_of (ap (λ (m : List ℕ). check_of A s m l t) left_is ∙ left-checks A s message l j t none bytes) in
          (ap (λ (r : Answer). r.number) says, ap (λ (r : Answer). r.yes) says)

      pub c-restore-only : (f : List ℕ) → length f ≡ size → ((i : ℕ) → get_or f i 0 < 256) → (λs : Lfts 3) (b : Dens λs check-k.ps) (z : Checking λs b)
          → CheckAt λs (as_check λs b) A s (with_block j message f) l t → z.result.yes ≡ 1 → with_block j message f ≡ message_left
      c-restore-only f long bytes λs b z bt said =
          left-only A s message l j t none f long bytes (yes-means A s (with_block j message f) l t (ap (λ (r : Answer). r.yes) (sym (check-at λs b z bt)) ∙ said)).1
          ∙ sym left_is

-- ---- two calls

module _ (κs : Lfts 3) (a : Dens κs restore-k.ps) (x : Restoring κs a) (λs : Lfts 3) (b : Dens λs restore-k.ps) (y : Restoring λs b)
    {A : Agreement} {s u v : List ℕ} {l j : ℕ} {t : List ℕ} (at : RestoreAt κs (as_restore κs a) A s u l j t) (bt : RestoreAt λs (as_restore λs b) A s v l j t) (h : Outside j u v) where
  pub c-restore-whatever : (x.result ≡ y.result) × (x.result ≡ 0 → message_left κs a x ≡ message_left λs b y)
  c-restore-whatever = (
    c-restore-number κs a x at ∙ same-fault A s u v l j t h ∙ sym (c-restore-number λs b y bt),
    λ filled. left_is κs a x at ∙ ap (λ (r : _ × List ℕ). r.1) (whatever-of A s u v l j t h (none κs a x at filled)) ∙ sym (left_is λs b y bt),
  )

module _ (λs : Lfts 3) (b : Dens λs check-k.ps) (z : Checking λs b) (κs : Lfts 3) (a : Dens κs restore-k.ps) (x : Restoring κs a)
    {A : Agreement} {s m : List ℕ} {l j : ℕ} {t : List ℕ} (f : List ℕ) (bt : CheckAt λs (as_check λs b) A s m l t) (at : RestoreAt κs (as_restore κs a) A s (with_block j m f) l j t) where
  pub c-restore-back : z.result.yes ≡ 1 → A.m ≡ n → suc j * n ≤ l → length f ≡ size → ((i : ℕ) → get_or m i 0 < 256) → (x.result ≡ 0) × (message_left κs a x ≡ m)
  c-restore-back said whole fits hf bytes =
      let was = yes-means A s m l t (ap (λ (r : Answer). r.yes) (sym (check-at λs b z bt)) ∙ said) in (
        c-restore-number κs a x at ∙ back-accepted A s m l j t f whole was.0 fits hf,
        left_is κs a x at ∙ ap (λ (r : _ × List ℕ). r.1) (back-of A s m l j t f whole was.0 fits hf bytes (sym was.1)),
      )
