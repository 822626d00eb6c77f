-- `fed` meets its contract: what `feed` ensures under what `keyed` made is the next record.
-- Assumes nothing.
use Rattle.std.proofs.Common.{ℕ, ◌+◌, take, sym, ap, ◌∙◌}
use Rattle.bits.specs.Str.{bytes_bits}
use Rattle.cipher.specs.Ciphers.{cipher_at}
use Rattle.mac.specs.Algorithm.{Keys}
use Rattle.mac.specs.Tag.{bits_of}
use Rattle.mac.specs.Session.{absorb}
use Rattle.mac.proofs.TagBytes.{length-bits_of}
use Rattle.settings.specs.declared.Settings.{Settings}
use Rattle.chain.specs.Rounds.{rounds_of}
use Rattle.chain.specs.Chain.{steps_at, state_at, hold_of}
use Rattle.session.specs.Record.{keys_in, state_in, standing}
use Rattle.session.specs.Calls.{steps_in, fed_of}
use Rattle.session.proofs.Answers.{keyed-for}
use Rattle.session.proofs.WithKeys.fed.Goals as goal

pub returns : goal.returns
unfolding fed_of standing state_in bits_of
returns c =
    let a = c.args in
    let s = a.self.now.session in
    let k = c.keyed-k in
    let hold =
    keyed-for k.result s.agreement (keys_in s) k.ensures.cipher k.ensures.settings (k.ensures.rounds ∙ ap (rounds_of 1 s.agreement.algorithm) a.self.now.own.0)
    (λ (n : ℕ) (S : Settings) (K : Keys). hold_of (absorb (cipher_at n).n (steps_at n S.algorithm K) (state_at (cipher_at n).n S.padding s.total s.hold) (take a.bits (bytes_bits a.bytes.now)))) c.feed.ensures in
    rw (hold, c.phase_at.ensures)
    (ap (λ (n : ℕ). standing s (s.total + n) (absorb (cipher_at 1).n (steps_in s) (state_in s) (bits_of a.bytes.now a.bits))) (sym (length-bits_of a.bytes.now a.bits c.requires.0)))
