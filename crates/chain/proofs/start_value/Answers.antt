-- `start_value` meets its contract: zeros, or zeros enciphered (`start-at`).
-- Assumes nothing.
use mathlib.Core.Path.{sym, ap, ◌∙◌}
use Rattle.bits.specs.Str.{words, zeros}
use Rattle.block.proofs.Windows.{blank}
use Rattle.cipher.specs.Ciphers.{cipher_at, enc_at}
use Rattle.mac.specs.Algorithm.{algorithm_at, steps}
use Rattle.chain.specs.Chain.{width_of}
use Rattle.chain.proofs.Firsts.{first-blank}
use Rattle.chain.proofs.Rows.{start-at, k-is}
use Rattle.chain.proofs.start_value.Goals as goal

pub returns-then-k-eq8 : goal.returns-then-k-eq8
unfolding blank algorithm_at steps
returns-then-k-eq8 c =
    let tested = c in
    let k = tested.args.k.now in
    let made = c.enc.ensures ∙ ap (enc_at k.cipher (words k.rounds.first)) (first-blank k.cipher) in
    rw tested.if-k-eq8.true (λ K e. made ∙ (λ i. k-is k.cipher 8 k.rounds K e i (zeros (width_of k))))

pub returns : goal.returns
unfolding blank
returns c K e =
    let k = c.args.k.now in
    first-blank k.cipher ∙ sym (start-at (cipher_at k.cipher) K k.settings.algorithm c.if-k-eq8.false)
