-- `schedule` meets its contract. The loop's invariant: the walk so far, under the constants (Walk.antt), and what is written are the
-- words made by it.
-- Assumes nothing.
use mathlib.Core.Path.{refl, sym, ap, ap₂, ◌∙◌}
use Prim.Native.Nat.{◌+◌, ◌<◌}
use native.Mathlib.Omega.{arith}
use lib.Seq.{take_all}
use borrow.Author.Rules.{rules}
use Rattle.bits.specs.Str.{words}
use Rattle.sm4.specs.Constants.{fk, CK, CKs}
use Rattle.sm4.specs.Cipher.{T', made, round_keys}
use Rattle.sm4.proofs.Walk.{walk_start, walk-on, made-on, length-CKs, CK-at}
use Rattle.sm4.proofs.schedule.Goals as goal

pub loop-i-init : goal.loop-i-init
unfolding made words
loop-i-init c = (
  walk_start T' (CKs 32 0) c.new-s.result _ length-CKs (c.constant.ensures ∙ CK-at 0 (omega arith)) c.new-s.ensures.1,
  search rules,
  refl,
)

pub loop-i-preserved : goal.loop-i-preserved
loop-i-preserved c =
    let l = c.loop-i in
    let ks = CKs 32 0 in
    let s₀ = c.new-s.result in
    let key = λ (h : l.i + 1 < 32). c.constant-in-loop-i.ensures ∙ ap CK (omega (arith, h)) ∙ CK-at (l.i + 1) h in (
      walk-on T' ks s₀ l.s _ l.i l.invariant.0 (omega arith) _ key c.step-s.ensures,
      search rules,
      made-on T' ks s₀ l.s _ l.i l.invariant.0 (omega arith) _ key c.step-s.ensures _ l.word-items (omega arith) c.newest.ensures l.invariant.2,
    )

pub returns : goal.returns
unfolding round_keys fk
returns c =
    let l = c.loop-i in
    ap words (sym (take_all l.i l.word-items (omega arith))) ∙ l.invariant.2
    ∙ ap₂ (made T') (c.new-s.ensures.0 ∙ c.key_start.ensures) (take_all l.i (CKs 32 0) (omega (arith, length-CKs)))
