-- `restore` meets its contract: the settings' refusal (`restore-refused`), or what is restored under them (`restore-restored`).
-- Assumes nothing.
use Rattle.std.proofs.Common.{rules, ◌≡◌, Err, length, refl, sym, ap, ◌∙◌}
use Rattle.keys.specs.Given.{key_bits}
use Rattle.settings.specs.Answers.{checked_told, checked_of}
use Rattle.settings.specs.declared.Agreement.{Agreement}
use Rattle.tag.specs.Restore.{restored_told}
use Rattle.tag.proofs.Restoring.{full-keys, restore-refused, full-settings, restore-restored}
use Rattle.tag.proofs.restore.Goals as goal

pub restore_under-requires : goal.restore_under-requires
unfolding checked_told
restore_under-requires c =
    let a = c.args in
    full-settings a.agreement a.keys.now a.message.now a.bits a.block a.tag.now (key_bits c.unpack.result.keys) (c.unpack.ensures.0 ∙ sym (full-keys a.agreement a.keys.now)) _
    (c.in_ok-s.ensures ∙ ap (λ (A : Agreement). checked_of A (length a.keys.now) (key_bits c.unpack.result.keys)) c.full_only.ensures) _ refl

pub returns-in_err-s : goal.returns-in_err-s
unfolding checked_told restored_told
returns-in_err-s c =
    let a = c.args in
    let refused : c.from_residual.result ≡ Err c.in_err-s.field-0.0 = search rules in
    ap (λ r. (restored_told r, a.message.now)) refused
    ∙ restore-refused a.agreement a.keys.now a.message.now a.bits a.block a.tag.now (key_bits c.unpack.result.keys) (c.unpack.ensures.0 ∙ sym (full-keys a.agreement a.keys.now)) _
    (c.in_err-s.ensures ∙ ap (λ (A : Agreement). checked_of A (length a.keys.now) (key_bits c.unpack.result.keys)) c.full_only.ensures) _ refl

pub returns : goal.returns
unfolding checked_told
returns c =
    let a = c.args in
    restore-restored a.agreement a.keys.now a.message.now a.bits a.block a.tag.now (key_bits c.unpack.result.keys) (c.unpack.ensures.0 ∙ sym (full-keys a.agreement a.keys.now)) _
    (c.in_ok-s.ensures ∙ ap (λ (A : Agreement). checked_of A (length a.keys.now) (key_bits c.unpack.result.keys)) c.full_only.ensures) _ refl _ c.restore_under.ensures
