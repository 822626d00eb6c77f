-- `judge` meets its contract: the refusal, or the comparison with the tag's bytes (`judged-is`).
-- Assumes nothing.
use Rattle.std.proofs.Common.{rules, ◌≡◌, refl, ap, ◌∙◌, arith, eq-eqb}
use Rattle.bits.specs.Choice.{first_of}
use Rattle.bits.proofs.Choice.{hit, miss}
use Rattle.refusals.specs.Number.{number_in}
use Rattle.settings.specs.Answers.{Told, told}
use Rattle.session.specs.Record.{cleared, is_check}
use Rattle.session.specs.Calls.{calls_in, finish_check_faults, finish_check_of}
use Rattle.session.proofs.Open.{ended}
use Rattle.session.proofs.Answers.{judged-is}
use Rattle.session.proofs.Session.judge.Goals as goal

pub returns-then-equal_bytes : goal.returns-then-equal_bytes
unfolding finish_check_of told finish_check_faults number_in is_check
returns-then-equal_bytes c =
    let s = c.args.self in
    let sound : first_of (finish_check_faults s) ≡ 0 = grind arith in
    let verdict = judged-is s (search rules) (search rules) (ended s _ _ sound).stands.short c.tag_block-tag.result _ _ _ (search rules) (search rules) (rw c.of-with_keys.ensures at c.tag_block-tag.ensures) c.bytes_for-n.ensures (c.calls-calls.ensures ∙ ap calls_in c.of-with_keys.ensures) c.equal_bytes.ensures in
    hit _ _ _ _ (eq-eqb _ 0 sound) (ap (λ (o : Told). record { answer = o; session = cleared }) (hit _ _ _ _ c.if-equal_bytes.true refl ∙ verdict))

pub returns-else-equal_bytes : goal.returns-else-equal_bytes
unfolding finish_check_of told finish_check_faults number_in is_check
returns-else-equal_bytes c =
    let s = c.args.self in
    let sound : first_of (finish_check_faults s) ≡ 0 = grind arith in
    let verdict = judged-is s (search rules) (search rules) (ended s _ _ sound).stands.short c.tag_block-tag.result _ _ _ (search rules) (search rules) (rw c.of-with_keys.ensures at c.tag_block-tag.ensures) c.bytes_for-n.ensures (c.calls-calls.ensures ∙ ap calls_in c.of-with_keys.ensures) c.equal_bytes.ensures in
    hit _ _ _ _ (eq-eqb _ 0 sound) (ap (λ (o : Told). record { answer = o; session = cleared }) (miss _ _ _ _ c.if-equal_bytes.false refl ∙ verdict))
