-- The state that the code keeps between two rounds, as the definition's four words.
-- Assumes nothing.
use Rattle.std.specs.Prelude.{◌≡◌}
use Rattle.bits.specs.Str.{Bits, bits_n, xor_b}
use Rattle.sm4.specs.Cipher.{Quad, round}
use Rattle.sm4.specs.declared.Split.{Split}

-- the newest word is kept as two, to be put together by xor
unfoldable pub joined : Split → Quad
joined s = record { x0 = bits_n 32 s.x0; x1 = bits_n 32 s.x1; x2 = bits_n 32 s.x2; x3 = xor_b (bits_n 32 s.m) (bits_n 32 s.n) }

-- q is the xor of the two words before the newest and of the next round's key
unfoldable pub Ready : Split → Bits → Type 0
Ready s rk = bits_n 32 s.q ≡ xor_b (xor_b (bits_n 32 s.x1) (bits_n 32 s.x2)) rk

-- from s to r is one round under whichever key s is ready for, and r is ready for k; t is T or T'
pub record Stepped (t : Bits → Bits) (s r : Split) (k : Bits) : Type 0 where
  pub goes : (rk : Bits) → Ready s rk → joined r ≡ round t (joined s) rk
  pub ready : Ready r k
