-- `first` meets its contract: the tests that are left decide the answer (`first-at` at each).
-- Assumes nothing.
use mathlib.Core.Path.{refl, sym, ap, ◌∙◌}
use mathlib.Core.Bool.{Bool}
use mathlib.Core.List.{List}
use Prim.Native.Nat.{ℕ}
use native.Mathlib.Omega.{arith}
use lib.ListN.{drop, drop_of_length-le}
use Rattle.bits.specs.Choice.{first_of, faults}
use Rattle.bits.proofs.Choice.{hit, miss}
use Rattle.bits.proofs.Faults.{first-at, faults-unnumbered, faults-untested}
use Rattle.bits.proofs.first.Goals as goal

pub returns-then-numbers-i : goal.returns-then-numbers-i
returns-then-numbers-i c =
    let a = c.args in
    let l = c.loop-i in
    sym (faults-unnumbered _) ∙ ap (λ (ns : List ℕ). first_of (faults ns (drop l.i a.there.now))) (sym (drop_of_length-le a.numbers.now {i = l.i} (omega arith))) ∙ l.invariant

pub returns-then-there-i : goal.returns-then-there-i
returns-then-there-i c =
    let a = c.args in
    let l = c.loop-i in
    hit _ _ _ _ c.if-there-i.true refl ∙ sym (first-at a.numbers.now a.there.now l.i (omega arith) (omega arith)) ∙ l.invariant

pub loop-i-preserved : goal.loop-i-preserved
loop-i-preserved c =
    let a = c.args in
    let l = c.loop-i in
    miss _ _ _ _ c.if-there-i.false refl ∙ sym (first-at a.numbers.now a.there.now l.i (omega arith) (omega arith)) ∙ l.invariant

pub returns : goal.returns
returns c =
    let a = c.args in
    let l = c.loop-i in
    sym (faults-untested _) ∙ ap (λ (bs : List Bool). first_of (faults (drop l.i a.numbers.now) bs)) (sym (drop_of_length-le a.there.now {i = l.i} (omega arith))) ∙ l.invariant
