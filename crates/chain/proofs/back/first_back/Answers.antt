-- `first_back` meets its contract (`step-back-is`).
-- Assumes nothing.
use mathlib.Core.Path.{refl, sym, ap, ◌∙◌}
use Rattle.bits.specs.Str.{words}
use Rattle.bits.proofs.Choice.{hit, miss}
use Rattle.cipher.specs.Ciphers.{dec_at}
use Rattle.chain.proofs.Rows.{step-back-is}
use Rattle.chain.proofs.back.first_back.Goals as goal

pub returns-then-twice : goal.returns-then-twice
returns-then-twice c K e y long came =
    let twice = c in
    let a = twice.args in
    let first = dec_at a.k.now.cipher (words a.k.now.rounds.first) in
    let third = dec_at a.k.now.cipher (words a.k.now.rounds.third) in
    hit _ _ _ _ (sym twice.twice.ensures ∙ c.if-twice.true)
    (c.dec-then-twice.ensures ∙ ap first (c.dec.ensures ∙ ap third c.enc-y.ensures))
    ∙ step-back-is a.k.now.cipher a.k.now.settings.algorithm a.k.now.rounds K e a.begun y _ long came

pub returns : goal.returns
returns c K e y long came =
    let a = c.args in
    miss _ _ _ _ (sym c.twice.ensures ∙ c.if-twice.false) refl
    ∙ step-back-is a.k.now.cipher a.k.now.settings.algorithm a.k.now.rounds K e a.begun y _ long came
