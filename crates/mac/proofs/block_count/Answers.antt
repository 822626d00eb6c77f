-- `block_count` meets its contract: the closed form of q for each padding number (`count-two`, `count-three`, `count-other`) at
-- the cipher's width, in blocks so large that their count plus one fits (`eighth`).
-- Assumes nothing.
use Rattle.std.proofs.Common.{ℕ, suc, ◌-◌, ◌/◌, ◌≤◌, add-one, arith, sym, ap, ◌∙◌, rules}
use Rattle.cipher.specs.Ciphers.{cipher_at}
use Rattle.cipher.proofs.Laws.{width-at, lawful-at}
use Rattle.mac.proofs.Padded.{needed, count-two, count-three, count-other, eighth}
use Rattle.mac.proofs.block_count.Goals as goal

a_byte : (c : ℕ) → 8 ≤ (cipher_at c).n
a_byte c = let W = width-at c in omega (arith, W.whole, W.some)

pub nonzero_div-result : goal.nonzero_div-result
nonzero_div-result c = omega (arith, (lawful-at c.args.cipher).wide, c.width.ensures)

pub overflow_add-result : goal.overflow_add-result
overflow_add-result c = omega (arith, eighth c.width.result c.args.bits (omega (arith, a_byte c.args.cipher, c.width.ensures)))

pub returns-in-2 : goal.returns-in-2
returns-in-2 c =
    add-one (c.args.bits / c.width.result) ∙ ap (λ (k : ℕ). suc (c.args.bits / k)) c.width.ensures
    ∙ sym (count-two _ c.args.bits (lawful-at c.args.cipher).wide c.args.padding c.in-2.is)

pub overflow_add-result-in-3 : goal.overflow_add-result-in-3
overflow_add-result-in-3 c = omega (arith, c.needed.ensures, eighth _ (c.args.bits - 1) (a_byte c.args.cipher))

pub returns-in-3 : goal.returns-in-3
unfolding needed
returns-in-3 c = add-one c.needed.result ∙ ap suc c.needed.ensures ∙ sym (count-three _ c.args.bits (lawful-at c.args.cipher).wide c.args.padding c.in-3.is)

pub returns-in_default : goal.returns-in_default
unfolding needed
returns-in_default c = c.needed-in_default.ensures ∙ sym (count-other _ c.args.bits (lawful-at c.args.cipher).wide c.args.padding (search rules) (search rules))
