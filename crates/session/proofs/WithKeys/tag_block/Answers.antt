-- `tag_block` meets its contract: what `close` ensures under what `keyed` made.
-- Assumes nothing.
use Rattle.std.proofs.Common.{ℕ, ap, ◌∙◌}
use Rattle.block.specs.Block.{filled_block}
use Rattle.cipher.specs.Ciphers.{cipher_at}
use Rattle.mac.specs.Padding.{method_at, suffix, complete}
use Rattle.mac.specs.Algorithm.{Keys}
use Rattle.mac.specs.Session.{absorb, finish}
use Rattle.settings.specs.declared.Settings.{Settings}
use Rattle.chain.specs.Rounds.{rounds_of}
use Rattle.chain.specs.Chain.{steps_at, state_at}
use Rattle.session.specs.Record.{keys_in, state_in}
use Rattle.session.specs.Calls.{tag_in}
use Rattle.session.proofs.Answers.{keyed-for}
use Rattle.session.proofs.WithKeys.tag_block.Goals as goal

pub returns : goal.returns
unfolding tag_in state_in
returns c =
    let s = c.args.self.now.session in
    let k = c.keyed-k in
    keyed-for k.result s.agreement (keys_in s) k.ensures.cipher k.ensures.settings (k.ensures.rounds ∙ ap (rounds_of 1 s.agreement.algorithm) c.args.self.now.own.0)
    (λ (c : ℕ) (S : Settings) (K : Keys). let n = (cipher_at c).n in filled_block (finish (steps_at c S.algorithm K) (complete n s.total) S.m (absorb n (steps_at c S.algorithm K) (state_at n S.padding s.total s.hold) (suffix (method_at S.padding) n s.total))).out) c.close.ensures
