-- The round keys that an algorithm uses, as bits.
-- Assumes nothing.
use Rattle.std.specs.Prelude.{List, ℕ, take, replicate}
use Rattle.bits.specs.Choice.{pick}
use Rattle.bits.specs.Str.{Bits, bytes_bits, words}
use Rattle.cipher.specs.Ciphers.{cipher_at, round_keys_at}
use Rattle.mac.specs.Algorithm.{algorithm_at, row, Keys}
use Rattle.keys.specs.declared.KeyBlocks.{KeyBlocks}
use Rattle.chain.specs.declared.Rounds.{Rounds}

pub record RoundsBits : Type 0 where
  pub k : List Bits
  pub k' : List Bits
  pub k'' : List Bits

unfoldable pub rounds_bits : Rounds → RoundsBits
rounds_bits r = record { k = words r.first; k' = words r.second; k'' = words r.third }

-- under cipher c, of the keys that algorithm a uses; zeros in place of the others
unfoldable pub rounds_of : ℕ → ℕ → Keys → RoundsBits
rounds_of c a K = record {
  k = round_keys_at c K.k;
  k' = pick (row (algorithm_at a)).two (round_keys_at c K.k') (words (replicate 32 0));
  k'' = pick (row (algorithm_at a)).third (round_keys_at c K.k'') (words (replicate 32 0));
}

-- K, K' and K'' given as blocks: the first bits of each, as many as a key has
unfoldable pub key_blocks : ℕ → KeyBlocks → Keys
key_blocks c b =
    let w = (cipher_at c).key_width in
    record { k = take w (bytes_bits b.first); k' = take w (bytes_bits b.second); k'' = take w (bytes_bits b.third) }
