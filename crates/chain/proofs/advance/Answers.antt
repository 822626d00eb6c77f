-- `advance` meets its contract: one call of the cipher, or two, is the algorithm's step (`step_is`).
-- Assumes nothing.
use mathlib.Core.Path.{◌≡◌, sym, ap, ◌∙◌}
use Prim.Native.Nat.{◌/◌}
use native.Mathlib.Omega.{arith}
use lib.ListN.{take}
use Rattle.bits.specs.Str.{bytes_bits, words, xor_b}
use Rattle.bits.proofs.Choice.{hit, miss}
use Rattle.cipher.specs.Ciphers.{enc_at}
use Rattle.cipher.proofs.Laws.{width-at}
use Rattle.chain.specs.Chain.{width_of}
use Rattle.chain.proofs.Firsts.{first-xor-part}
use Rattle.chain.proofs.Rows.{step_is}
use borrow.Author.Rules.{rules}
use Rattle.chain.proofs.advance.Lts
use Rattle.chain.proofs.advance.Reads
use Rattle.chain.proofs.advance.Tie
use Rattle.chain.proofs.advance.Goals as goal

pub xor_part-requires : goal.xor_part-requires
xor_part-requires c =
    let start = c.before.before.before.before in
    let wide = width-at start.args.k.now.cipher in
    (omega (arith, wide), omega (arith, wide, start.requires))

-- the first bits of the block enciphered once
once : (c : Lts.After-enc Tie.the-claims Reads.Pre Reads.Post) → let a = c.before.before.before.before.before.args in let n = width_of a.k.now in
    take n (bytes_bits c.enc-x.result) ≡ enc_at a.k.now.cipher (words a.k.now.rounds.first) (xor_b (take n (bytes_bits a.part.now)) (take n (bytes_bits a.h)))
once c =
    let start = c.before.before.before.before.before in
    let a = start.args in
    let W = width-at a.k.now.cipher in
    c.enc-x.ensures
    ∙ ap (enc_at a.k.now.cipher (words a.k.now.rounds.first)) (first-xor-part (width_of a.k.now) (c.before.before.width-size.result / 8) a.part.now a.h _ W (omega (arith, W, c.before.before.width-size.ensures)) start.requires (search rules) c.before.xor_part.ensures)

pub returns-then-twice : goal.returns-then-twice
returns-then-twice c K e =
    let twice = c.before.before.before.before in
    let a = twice.before.before.before.before.before.before.args in
    hit _ _ _ _ (sym twice.twice.ensures ∙ c.before.before.if-twice.true) (c.enc.ensures ∙ ap (enc_at a.k.now.cipher (words a.k.now.rounds.third)) (once twice.before))
    ∙ step_is a.k.now.cipher a.k.now.settings.algorithm a.k.now.rounds K e a.begun _

pub returns : goal.returns
returns c K e =
    let twice = c.before.before in
    let a = twice.before.before.before.before.before.before.args in
    miss _ _ _ _ (sym twice.twice.ensures ∙ c.if-twice.false) (once twice.before)
    ∙ step_is a.k.now.cipher a.k.now.settings.algorithm a.k.now.rounds K e a.begun _
