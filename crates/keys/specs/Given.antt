-- Keys as bytes: as they were given (01, refusal 4; 02 §6), and the keys in use that they make.
-- Assumes nothing.
use Rattle.std.specs.Prelude.{◌≡◌, Bool, List, ◌++◌, ℕ, length, drop}
use Rattle.bits.specs.Str.{bytes_bits}
use Rattle.block.specs.Block.{front}
use Rattle.cipher.specs.Ciphers.{cipher_at}
use Rattle.mac.specs.Run.{Run}
use Rattle.mac.specs.Algorithm.{algorithm_at, Keys}
use Rattle.mac.specs.Derive.{keys_used}
use Rattle.keys.specs.declared.KeyBlocks.{KeyBlocks}
use Rattle.keys.specs.declared.Unpacked.{Unpacked}

-- the first key is the first sixteen bytes, the second the next; bytes that are missing count as zero. Told are whether a master is
-- in use, and the algorithm
unfoldable pub unpack_of : Bool → ℕ → List ℕ → Run Keys
unpack_of master a s = keys_used (cipher_at 1) master (algorithm_at a) (bytes_bits (front s)) (bytes_bits (front (drop 16 s)))

-- the bytes as a record keeps them: 32, zeros where there are fewer
unfoldable pub given_of : List ℕ → List ℕ
given_of s = front s ++ front (drop 16 s)

-- the keys that the code's three blocks stand for
unfoldable pub key_bits : KeyBlocks → Keys
key_bits b = record { k = bytes_bits b.first; k' = bytes_bits b.second; k'' = bytes_bits b.third }

-- what the code unpacked are the keys of a run, and the number of its calls
abbrev pub Unpacks : Unpacked → Run Keys → Type 0
Unpacks u R = (key_bits u.keys ≡ R.out) × (u.calls ≡ length R.calls)
