-- Refusals 4 and 5 of document 01 and of 02 §6, by the algorithm's row: a test for each fault, in the words of its column.
-- Assumes nothing.
use Rattle.std.specs.Prelude.{Bool, ◌&&◌, ◌||◌, not, ℕ, eqb}
use Rattle.bits.specs.Choice.{pick}
use Rattle.bits.specs.Str.{same_b}
use Rattle.mac.specs.Algorithm.{algorithm_at, row, Keys}

-- 4: key bytes not 16 (one key) or 32 (K, then K'); under a master not 16 (the master) or, where K'' is used, 32 (K, then the
-- master), or an algorithm that takes no master
unfoldable pub key_bytes : Bool → ℕ → ℕ
key_bytes master a = pick (pick master (row (algorithm_at a)).third (row (algorithm_at a)).two) 32 16

unfoldable pub master_wrong : Bool → ℕ → Bool
master_wrong master a = master && not (row (algorithm_at a)).master

unfoldable pub key_bytes_wrong : Bool → ℕ → ℕ → Bool
key_bytes_wrong master a n = master_wrong master a || not (eqb n (key_bytes master a))

-- 5: algorithm 2, 4 or 6 with K = K', or 4 with K = K'', of the keys in use
unfoldable pub keys_same : ℕ → Keys → Bool
keys_same a K = ((row (algorithm_at a)).differ && same_b K.k K.k') || ((row (algorithm_at a)).third && same_b K.k K.k'')
