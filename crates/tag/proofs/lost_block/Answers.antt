-- `lost_block` meets its contract: what `chain` works out, at the round keys of the keys.
-- Assumes nothing.
use Rattle.std.proofs.Common.{rules, List, ℕ, suc, ◌*◌, ◌≤◌, take, sym, ap, ap₂, ◌∙◌}
use mathlib.Core.Path.{subst, subst₂}
use native.Mathlib.Omega.{arith}
use Rattle.bits.specs.Str.{Bits, bytes_bits}
use Rattle.block.specs.Block.{filled_block}
use Rattle.cipher.specs.Ciphers.{cipher_at}
use Rattle.cipher.proofs.Laws.{sm4-key}
use Rattle.mac.specs.Padding.{method_at, block_count}
use Rattle.mac.specs.Algorithm.{algorithm_at, row, Keys}
use Rattle.mac.specs.Lost.{lost_block}
use Rattle.mac.specs.Tag.{bits_of, bytes_for}
use Rattle.settings.specs.declared.Settings.{Settings}
use Rattle.chain.specs.Rounds.{key_blocks}
use Rattle.chain.proofs.Rows.{whole-keys, keyed-at}
use Rattle.tag.specs.Restore.{lost_at}
use Rattle.tag.proofs.Restoring.{tag-front}
use Rattle.tag.proofs.lost_block.Goals as goal

pub lost-requires : goal.lost-requires
unfolding bytes_for
lost-requires c =
    let cipher = sym c.new-k.ensures.1 in
    let under = sym c.new-k.ensures.2 in (
      (key_blocks 1 c.args.keys, keyed-at c.new-k.result _ c.new-k.ensures),
      c.requires.0,
      omega (arith, c.requires.1),
      subst (λ (n : ℕ). suc c.args.number * (cipher_at n).n ≤ c.args.bits) cipher c.requires.3,
      subst₂ (λ (n : ℕ) (S : Settings). (row (algorithm_at S.algorithm)).least ≤ block_count (method_at S.padding) (cipher_at n).n c.args.bits) cipher under c.requires.4,
    )

pub returns : goal.returns
unfolding lost_at bits_of
returns c =
    let a = c.args in
    let k = c.new-k in
    let K = key_blocks 1 a.keys in
    c.lost.ensures K (keyed-at k.result K k.ensures)
    ∙ (λ i. let under = k.ensures.2 i in let C = cipher_at (k.ensures.1 i) in filled_block (lost_block C (algorithm_at under.algorithm) (method_at under.padding) K a.number (bits_of a.message.now a.bits) (take C.n (bytes_bits c.front.result))))
    -- all bits of the key blocks are key bits
    ∙ ap₂ (λ (k : Keys) (t : Bits). filled_block (lost_block (cipher_at 1) (algorithm_at a.s.algorithm) (method_at a.s.padding) k a.number (bits_of a.message.now a.bits) t)) (whole-keys 1 a.keys sm4-key (search rules) (search rules) (search rules))
    (ap (λ (u : List ℕ). take (cipher_at 1).n (bytes_bits u)) c.front.ensures ∙ tag-front a.offered.now c.requires.2)
