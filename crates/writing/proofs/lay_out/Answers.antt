-- `lay_out` meets its contract: the refusal, or the bytes over zeros; what is not refused has a lot of 32 bytes at most (`sayable`).
-- Assumes nothing.
use Rattle.std.proofs.Common.{◌≡◌, refl, sym, ap, ◌∙◌, ℕ, ◌++◌, drop, replicate, arith}
use Rattle.std.proofs.lemmas.Grind.{common_steps}
use Rattle.bits.specs.Choice.{pick}
use Rattle.refusals.specs.Number.{number_in}
use Rattle.refusals.proofs.Number.{refusal-numbered}
use Rattle.writing.specs.Writing.{says, covered_of, filled_to, covered_told, lay_out}
use Rattle.writing.proofs.Sayable.{sayable, length-covered, over_zeros}
use Rattle.writing.proofs.lay_out.Goals as goal

pub returns-in_err-refusal : goal.returns-in_err-refusal
unfolding lay_out covered_told number_in pick
returns-in_err-refusal c = grind (arith, common_steps, refusal-numbered)

pub put_covered-requires : goal.put_covered-requires
unfolding number_in
put_covered-requires c =
    let ok = sayable (says c.args.said) (sym c.in_ok-refusal.ensures) in
    (ok.lot-length.high, omega (arith, ok.microlitres), omega arith)

pub returns : goal.returns
unfolding lay_out covered_told number_in pick
returns c =
    let x = says c.args.said in
    let none = c.in_ok-refusal.ensures in
    let ok = sayable x (sym none) in
    let long = length-covered x in
    let bytes : c.put_covered.new.room ≡ filled_to 53 (covered_of x) =
    over_zeros 53 (covered_of x) _ (omega (arith, long, ok.lot-length.high)) (c.put_covered.ensures ∙ ap (λ (k : ℕ). covered_of x ++ drop k (replicate 53 0)) (sym long)) in
    rw (← none, bytes, long) refl
