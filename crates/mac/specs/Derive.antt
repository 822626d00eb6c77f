-- The keys in use over any block cipher (02 §6): the keys that were given, or keys derived from a master by key derivation method 1
-- (000, 6.2.2). A key is as wide as a block here, so each derived key is one block. Unpacking is a calculation like the tag's, and the
-- list of calls for a tag begins with the calls that it makes.
-- Assumes nothing.
use Rattle.std.specs.Prelude.{Bool, true, false, ℕ}
use Rattle.bits.specs.Choice.{pick}
use Rattle.bits.specs.Str.{Bits, bits_n}
use Rattle.cipher.specs.Cipher.{Cipher}
use Rattle.mac.specs.Run.{Run, just, ◌then◌, ◌giving◌, e}
use Rattle.mac.specs.Padding.{Method}
use Rattle.mac.specs.Algorithm.{Algorithm, row, Keys, keys}
use Rattle.mac.specs.Tag.{mac}

-- the first and the second derived key: the counters 1 and 2, each a block, enciphered under the master
unfoldable pub derived : Cipher → Bits → Run (Bits × Bits)
derived C M = e C M (bits_n C.n 1) then λ a. e C M (bits_n C.n 2) giving λ b. (a, b)

-- K, K' and K'' of the first and the second key that were given. Under a master: where K'' is used the first is K, and the master,
-- which is the second, makes K' and K''; else the master, which is the first, makes K and K'
unfoldable pub keys_used : Cipher → Bool → Algorithm → Bits → Bits → Run Keys
keys_used C false A g h = just (keys g h)
keys_used C true A g h =
    pick (row A).third
    (derived C h giving λ d. record { k = g; k' = d.0; k'' = d.1 })
    (derived C g giving λ d. keys d.0 d.1)

-- the tag of m bits of the message x, and all calls for it: those of unpacking the keys, then those of the tag under them
unfoldable pub mac_from : Cipher → Algorithm → Method → Run Keys → ℕ → Bits → Run Bits
mac_from C A M R m x = R then λ K. mac C A M K m x
