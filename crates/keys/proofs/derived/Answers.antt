-- `derived` meets its contract: the counters 1 and 2 under the master (`derived-key`).
-- Assumes nothing.
use Rattle.std.proofs.Common.{arith, rules, ap₂}
use Rattle.bits.specs.Str.{Bits, words}
use Rattle.cipher.proofs.Laws.{width-at}
use Rattle.mac.specs.Derive.{derived}
use Rattle.keys.proofs.MasterKeys.{derived-key}
use Rattle.keys.proofs.derived.Goals as goal

pub number-requires : goal.number-requires
number-requires c = omega (arith, width-at 1, c.width-n.ensures)

pub number-requires-2 : goal.number-requires-2
number-requires-2 c = omega (arith, width-at 1, c.width-n.ensures)

pub returns : goal.returns
unfolding derived
returns c =
    let keys = words c.schedule-rk.result in
    ap₂ (λ (x y : Bits). (x, y))
    (derived-key c.args.master keys 1 _ _ (search rules) (search rules) (search rules) c.schedule-rk.ensures (rw c.width-n.ensures at c.number.ensures) c.encrypt-first.ensures)
    (derived-key c.args.master keys 2 _ _ (search rules) (search rules) (search rules) c.schedule-rk.ensures (rw c.width-n.ensures at c.number-2.ensures) c.encrypt-second.ensures)
