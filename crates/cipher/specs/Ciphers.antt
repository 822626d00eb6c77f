-- The ciphers by number, and how code works with one: the round keys of a key once, then blocks under round keys, with tables lent.
-- Whatever the cipher, round keys are 32 words, and each table has one length.
-- Assumes nothing.
use mathlib.Core.List.{List, flat_map, reverse}
use Rattle.std.specs.Prelude.{ℕ}
use Rattle.bits.specs.Str.{Bits, bits_n}
use Rattle.sm4.specs.Cipher.{enc, dec, round_keys, encrypted, decrypted}
use Rattle.sm4.specs.Table.{table, wide}
use Rattle.cipher.specs.Cipher.{Cipher}

-- SM4: blocks and keys of 128 bits
abbrev pub sm4 : Cipher
sm4 = record { n = 128; key_width = 128; encrypt = encrypted; decrypt = decrypted; poly = 0x87 }

-- by its number: SM4 is number 1, and stands for every number that no cipher has
unfoldable pub cipher_at : ℕ → Cipher
cipher_at c = sm4

-- the tables to be lent: to every call, and to those that chain the blocks of a long message
unfoldable pub table_at : ℕ → List ℕ
table_at c = table

unfoldable pub wide_at : ℕ → List ℕ
wide_at c = wide

-- the round keys of a key, and those under which enciphering is deciphering under them (`enc-backwards`)
unfoldable pub round_keys_at : ℕ → Bits → List Bits
round_keys_at c = round_keys

unfoldable pub backwards_at : ℕ → List Bits → List Bits
backwards_at c = reverse

-- a block under round keys, there and back
unfoldable pub enc_at : ℕ → List Bits → Bits → Bits
enc_at c = enc

unfoldable pub dec_at : ℕ → List Bits → Bits → Bits
dec_at c = dec

-- words one after the other, 32 bits each: a block is kept in four
unfoldable pub words_bits : List ℕ → Bits
words_bits xs = flat_map (bits_n 32) xs
