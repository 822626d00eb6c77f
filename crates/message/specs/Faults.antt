-- The faults of a message and of the room for its tag: refusals 7 to 10 of document 01, a test for each in the words of its column,
-- and their order; and 41 of document 02, a block that is not there.
-- Assumes nothing.
use Rattle.std.specs.Prelude.{Bool, not, List, [], ◌∷◌, ℕ, suc, ◌*◌, eqb, ltb}
use Rattle.bits.specs.Choice.{Fault, ◌given◌}
use Rattle.cipher.specs.Ciphers.{cipher_at}
use Rattle.mac.specs.Padding.{method_at, block_count}
use Rattle.mac.specs.Algorithm.{algorithm_at, row}
use Rattle.mac.specs.Tag.{bytes_for}
use Rattle.settings.specs.declared.Settings.{Settings}

-- 7: slice length is not the bit count divided by 8, rounded up
abbrev pub length_wrong : ℕ → ℕ → Bool
length_wrong c l = not (eqb c (bytes_for l))

-- 8: too many bits
abbrev pub too_many_bits : ℕ → Bool
too_many_bits l = ltb 8388608 l

-- 9: algorithm 4 and q < 2. Every message has a block, so the least of the other rows, 1, refuses none
abbrev pub too_few_blocks : Settings → ℕ → Bool
too_few_blocks S l = ltb (block_count (method_at S.padding) (cipher_at 1).n l) (row (algorithm_at S.algorithm)).least

-- 10: room for a tag under ⌈m/8⌉ bytes; when checking, tag not exactly that long
abbrev pub room_short : ℕ → ℕ → Bool
room_short m room = ltb room (bytes_for m)

abbrev pub tag_length_wrong : ℕ → ℕ → Bool
tag_length_wrong m c = not (eqb c (bytes_for m))

-- in this order: c bytes of message, l bits; ten is fault 10
unfoldable pub message_faults : Settings → ℕ → ℕ → Bool → List Fault
message_faults S c l ten =
    7 given length_wrong c l ∷
    8 given too_many_bits l ∷
    9 given too_few_blocks S l ∷
    10 given ten ∷
    []

-- 41: block j, counted from 0, is not a whole block inside the l bits of the message
abbrev pub no_such_block : ℕ → ℕ → Bool
no_such_block l j = ltb l (suc j * (cipher_at 1).n)
