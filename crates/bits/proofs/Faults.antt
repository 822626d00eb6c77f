-- A refusal is given exactly when its fault is there and none before it is: of every list of faults, in both directions.
-- Assumes nothing.
use mathlib.Core.Path.{◌≡◌, refl, sym, ap, ap₂, ◌∙◌}
use mathlib.Core.Bool.{Bool, true, false, true≢false}
use mathlib.Core.List.{List, [], ◌∷◌, ◌++◌}
use Prim.Native.Nat.{ℕ, suc, ◌+◌, ◌<◌}
use native.Mathlib.Omega.{arith}
use lib.Dec.{eqb}
use lib.ListN.{length, drop, get_or}
use lib.Seq.{drop-cons}
use borrow.Author.Tests.{eqb-false}
use Rattle.std.proofs.Common.{slice_index_or, Err}
use Rattle.std.proofs.lemmas.List.{at_drop_more}
use Rattle.bits.specs.Choice.{pick, Fault, ◌given◌, first_of, one_of, faults, first_fault}

-- the fault of number n is there, and none before it
pub data Given (n : ℕ) : List Fault → Type 0 where
  here : {b : Bool} {fs : List Fault} → b ≡ true → Given n (n given b ∷ fs)
  later : {k : ℕ} {b : Bool} {fs : List Fault} → b ≡ false → Given n fs → Given n (k given b ∷ fs)

-- none is there
pub data Clear : List Fault → Type 0 where
  done : Clear []
  passed : {k : ℕ} {b : Bool} {fs : List Fault} → b ≡ false → Clear fs → Clear (k given b ∷ fs)

-- this holds of every number in the list
pub data Every (P : ℕ → Type 0) : List Fault → Type 0 where
  all : Every P []
  with : {k : ℕ} {b : Bool} {fs : List Fault} → P k → Every P fs → Every P (k given b ∷ fs)

-- no fault in the list has the number c; and none has 0, which says that nothing is refused
abbrev pub Without : ℕ → List Fault → Type 0
Without c fs = Every (λ k. eqb k c ≡ false) fs

abbrev pub Numbered : List Fault → Type 0
Numbered fs = Without 0 fs

pub given-first : {n : ℕ} {fs : List Fault} → Given n fs → first_of fs ≡ n
unfolding first_of pick
given-first (here e) = rw e
given-first (later e g) = rw e (given-first g)

pub first-given : (n : ℕ) (fs : List Fault) → first_of fs ≡ n → 0 < n → Given n fs
unfolding first_of pick
first-given n [] e h = absurd (omega arith)
first-given n (k given true ∷ fs) e h = rw (sym e) (here refl)
first-given n (k given false ∷ fs) e h = later refl (first-given n fs e h)

pub first-clear : (fs : List Fault) → Numbered fs → first_of fs ≡ 0 → Clear fs
unfolding first_of pick
first-clear [] all e = done
first-clear (k given true ∷ fs) (with h o) e = absurd (eqb-false k 0 h e)
first-clear (k given false ∷ fs) (with h o) e = passed refl (first-clear fs o e)

pub clear_first : {fs : List Fault} → Clear fs → first_of fs ≡ 0
unfolding first_of pick
clear_first done = refl
clear_first (passed e c) = rw e (clear_first c)

pub clear-one : {k : ℕ} {b : Bool} → Clear (k given b ∷ []) → b ≡ false
clear-one (passed e done) = e

-- a fault that is not there does not count
pub first_past : (k : ℕ) (b : Bool) (fs : List Fault) → b ≡ false → first_of (k given b ∷ fs) ≡ first_of fs
unfolding first_of pick
first_past k b fs e = rw e refl

-- two lists one after the other: the second counts where the first is clear
pub first-append-clear : (fs gs : List Fault) → Numbered fs → first_of fs ≡ 0 → first_of (fs ++ gs) ≡ first_of gs
unfolding first_of pick
first-append-clear [] gs all e = refl
first-append-clear (k given true ∷ fs) gs (with h o) e = absurd (eqb-false k 0 h e)
first-append-clear (k given false ∷ fs) gs (with h o) e = first-append-clear fs gs o e

pub first-append : (fs gs : List Fault) → (first_of fs ≡ 0 → ⊥) → first_of (fs ++ gs) ≡ first_of fs
unfolding first_of pick
first-append [] gs some = absurd (some refl)
first-append (k given true ∷ fs) gs some = refl
first-append (k given false ∷ fs) gs some = first-append fs gs some

-- and where the two have none, the first has none
pub first-front : (fs gs : List Fault) → first_of (fs ++ gs) ≡ 0 → first_of fs ≡ 0
unfolding first_of pick
first-front [] gs e = refl
first-front (k given true ∷ fs) gs e = e
first-front (k given false ∷ fs) gs e = first-front fs gs e

-- what is known of both is known of the two one after the other, and the other way round
pub every_append : {P : ℕ → Type 0} {fs gs : List Fault} → Every P fs → Every P gs → Every P (fs ++ gs)
every_append all q = q
every_append (with h p) q = with h (every_append p q)

pub clear-append : (fs gs : List Fault) → Clear (fs ++ gs) → Clear fs × Clear gs
clear-append [] gs c = (done, c)
clear-append (k given b ∷ fs) gs (passed e c) = (passed e (clear-append fs gs c).0, (clear-append fs gs c).1)

pub clear_both : {fs gs : List Fault} → Clear fs → Clear gs → Clear (fs ++ gs)
clear_both done d = d
clear_both (passed e c) d = passed e (clear_both c d)

-- the same refusals before two lists with the same first fault
pub first-same : (fs gs hs : List Fault) → first_of gs ≡ first_of hs → first_of (fs ++ gs) ≡ first_of (fs ++ hs)
unfolding first_of pick
first-same [] gs hs e = e
first-same (k given true ∷ fs) gs hs e = refl
first-same (k given false ∷ fs) gs hs e = first-same fs gs hs e

-- what holds of every number in a list, and of 0, holds of the answer
pub every_first : {P : ℕ → Type 0} {fs : List Fault} → P 0 → Every P fs → P (first_of fs)
unfolding first_of pick
every_first z all = z
every_first z (with {b = true} h p) = h
every_first z (with {b = false} h p) = every_first z p

-- so a number that stands in no fault is never the answer
pub never_first : (c : ℕ) {fs : List Fault} → eqb 0 c ≡ false → Without c fs → ¬ (first_of fs ≡ c)
never_first c z w e = eqb-false _ c (every_first {P = λ k. eqb k c ≡ false} z w) e

-- a number that is one of some is none that is not
pub unlisted : (ks : List ℕ) (c : ℕ) → one_of ks c ≡ false → {n : ℕ} → one_of ks n ≡ true → ¬ (n ≡ c)
unlisted ks c out h e = true≢false (sym h ∙ ap (one_of ks) e ∙ out)

-- numbers and tests from place i on: the test there, or one after it
pub first-at : (ns : List ℕ) (bs : List Bool) (i : ℕ) → i < length ns → i < length bs
    → first_of (faults (drop i ns) (drop i bs)) ≡ pick (get_or bs i false) (get_or ns i 0) (first_of (faults (drop (i + 1) ns) (drop (i + 1) bs)))
unfolding faults first_of
first-at ns bs i h l =
    let next : suc i ≡ i + 1 = omega arith in
    ap₂ (λ (xs : List ℕ) (ys : List Bool). first_of (faults xs ys)) (drop-cons ns i 0 h ∙ ap (λ (k : ℕ). get_or ns i 0 ∷ drop k ns) next) (drop-cons bs i false l ∙ ap (λ (k : ℕ). get_or bs i false ∷ drop k bs) next)

-- the same of tests with what they refuse with, as the code has them: the test there, or one after it
pub fault-at : {A : Type 0} (ts : List (Bool × A)) (i : ℕ) (t : Bool × A) → i < length ts → t ≡ slice_index_or ts i t
    → first_fault (drop i ts) ≡ pick t.0 (Err t.1) (first_fault (drop (i + 1) ts))
unfolding first_fault
fault-at ts i t h e = at_drop_more first_fault ts i t h ∙ ap (λ u. first_fault (u ∷ drop (i + 1) ts)) (sym e)

pub faults-unnumbered : (bs : List Bool) → first_of (faults [] bs) ≡ 0
unfolding faults first_of
faults-unnumbered bs = refl

pub faults-untested : (ns : List ℕ) → first_of (faults ns []) ≡ 0
unfolding faults first_of
faults-untested [] = refl
faults-untested (n ∷ ns) = refl
