-- `make` meets its contract: the settings' refusal (`make-refused`), or what is made under them (`make-made`).
-- Assumes nothing.
use Rattle.std.proofs.Common.{rules, ◌≡◌, Err, refl, sym, ap, ◌∙◌}
use Rattle.keys.specs.Given.{key_bits}
use Rattle.settings.specs.InUse.{unpacked}
use Rattle.settings.specs.Answers.{checked_told, told}
use Rattle.settings.proofs.Sound.{sound-fits}
use Rattle.tag.proofs.Making.{make-refused, make-made}
use Rattle.tag.proofs.make.Goals as goal

pub make_under-requires : goal.make_under-requires
unfolding checked_told
make_under-requires c = (sound-fits c.args.agreement _ (key_bits c.unpack-unpacked.result.keys) _ (sym c.in_ok-s.ensures)).1

pub returns-in_err-s : goal.returns-in_err-s
unfolding checked_told told
returns-in_err-s c =
    let a = c.args in
    let refused : c.from_residual.result ≡ Err c.in_err-s.field-0.0 = search rules in
    ap (λ r. (told r, a.room.now)) refused
    ∙ make-refused a.agreement a.keys.now a.message.now a.bits (key_bits c.unpack-unpacked.result.keys) c.unpack-unpacked.ensures.0 _ c.in_err-s.ensures _ refl a.room.now

pub returns : goal.returns
unfolding checked_told
returns c =
    let a = c.args in
    let u = c.unpack-unpacked in
    make-made a.agreement a.keys.now a.message.now a.bits (key_bits u.result.keys) u.ensures.0 _ c.in_ok-s.ensures _ refl a.room.now _ (c.make_under.ensures (unpacked a.agreement a.keys.now) u.ensures)
