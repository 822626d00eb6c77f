-- `fresh` meets its contract: what `begin` ensures under what `keyed` made.
-- Assumes nothing.
use Rattle.std.proofs.Common.{ℕ, refl}
use Rattle.cipher.specs.Ciphers.{cipher_at}
use Rattle.mac.specs.Padding.{method_at}
use Rattle.mac.specs.Algorithm.{algorithm_at, Keys}
use Rattle.mac.specs.Session.{opened}
use Rattle.keys.specs.Given.{key_bits}
use Rattle.settings.specs.declared.Settings.{Settings}
use Rattle.chain.specs.Chain.{hold_of}
use Rattle.session.specs.Calls.{fresh_of}
use Rattle.session.proofs.Answers.{keyed-for}
use Rattle.session.proofs.fresh.Goals as goal

pub returns : goal.returns
unfolding fresh_of
returns c =
    let a = c.args in
    let k = c.keyed-k in
    let begun = keyed-for k.result a.agreement (key_bits a.keys) k.ensures.cipher k.ensures.settings k.ensures.rounds (λ (n : ℕ) (S : Settings) (K : Keys). hold_of (opened (cipher_at n) (algorithm_at S.algorithm) (method_at S.padding) K a.declared)) c.begin.ensures in
    rw begun refl
