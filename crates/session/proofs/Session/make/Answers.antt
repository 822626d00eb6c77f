-- `make` meets its contract: the refusal, or the tag's bytes put into the room (`room-is`).
-- Assumes nothing.
use Rattle.std.proofs.Common.{rules, ◌≡◌, length, ap, ◌∙◌, arith, eq-eqb}
use Rattle.bits.specs.Choice.{first_of}
use Rattle.bits.proofs.Choice.{hit}
use Rattle.refusals.specs.Number.{number_in}
use Rattle.settings.specs.Answers.{Made, told}
use Rattle.session.specs.Record.{cleared, is_check}
use Rattle.session.specs.Calls.{finish_faults, calls_in, finish_of}
use Rattle.session.proofs.Open.{ended}
use Rattle.session.proofs.Answers.{room-is}
use Rattle.session.proofs.Session.make.Goals as goal

pub returns : goal.returns
unfolding finish_of told finish_faults number_in is_check
returns c =
    let sound : first_of (finish_faults c.args.self (length c.args.room.now)) ≡ 0 = grind arith in
    let s = c.args.self in
    let short = (ended s _ _ sound).stands.short in
    let room = room-is s (search rules) (search rules) short c.tag_block.result c.args.room.now _ _ (search rules) (rw c.of-with_keys.ensures at c.tag_block.ensures) c.bytes_for.ensures c.put.ensures in
    hit _ _ _ _ (eq-eqb _ 0 sound) (λ i. (record { answer = Made ((c.calls.ensures ∙ ap calls_in c.of-with_keys.ensures) i); session = cleared }, room i))
