-- A whole slip under an agreement and a key, read by the definition: 4 November 2026, lot A7, 500 microlitres, sealed by algorithm 5
-- with a tag of 64 bits. So the theorems about accepted slips are about something. The same slip written by the definition, byte for
-- byte. And a slip that names m = 1, refused under that agreement, whatever the keys.
-- Assumes nothing.
use mathlib.Core.Path.{◌≡◌, refl}
use mathlib.Core.Bool.{false, xor}
use mathlib.Core.List.{List, [], ◌∷◌, ◌++◌, flat_map, zip_with}
use Prim.Native.Nat.{ℕ}
use Rattle.bits.specs.Choice.{pick, first_of}
use Rattle.bits.specs.Str.{bits_n, digit, num_of, bytes_bits, words, zeros, xor_b, same_row, rotl, leftmost, filled, shiftl, double, halves_flipped, every_second}
use Rattle.block.specs.Block.{front}
use Rattle.sm4.specs.Constants.{sbox, fk, ck, CK, CKs}
use Rattle.sm4.specs.Cipher.{quad, flat, four, Sbox, τ, L, L', T, T', F, round, rounds, made, R, enc, round_keys, encrypted}
use Rattle.cipher.specs.Ciphers.{cipher_at}
use Rattle.mac.specs.Padding.{method_at, complete, gap, one_gap, prefix, suffix, pad, D}
use Rattle.mac.specs.Algorithm.{algorithm_at, step, steps}
use Rattle.mac.specs.Tag.{some, H, G, mac, tag_of, bits_of, bytes_for, byte_groups, tag_bytes}
use Rattle.mac.specs.Derive.{keys_used, mac_from}
use Rattle.keys.specs.Given.{unpack_of}
use Rattle.keys.specs.Faults.{key_bytes, master_wrong, key_bytes_wrong, keys_same}
use Rattle.settings.specs.Faults.{settings_faults, algorithm_wrong, padding_wrong, size_wrong}
use Rattle.settings.specs.declared.Agreement.{Agreement}
use Rattle.message.specs.Faults.{tag_length_wrong}
use Rattle.tag.specs.OneCall.{tag_at, run_at, calls_at}
use Rattle.fields.specs.Field.{outside, any_outside, two_bytes, length_of, value, end_of, field_faults}
use Rattle.fields.specs.Date.{digit_at, two_digits, year_of, month_of, day_of, days, leap, days_in, date_wrong}
use Rattle.fields.specs.Layout.{lot_field_at, amount_at, seal_at, lot_field, amount_field, seal_field, covered, amount_of, expiry_faults, lot_faults, amount_faults, seal_faults, layout_faults}
use Rattle.slip.specs.Slip.{named_values, agreement_unmet, tag_named, seal_defined, seal_calls, seal_wrong, slip_faults, contents_of, accepted_slip, refused_slip, read_of}
use Rattle.writing.specs.Writing.{said, digit_of, expiry_value, amount_value, covered_of}
use Rattle.slip.specs.Printed.{sealed_by, slip_of}
use Rattle.slip.proofs.Borders.{covered_p12}

abbrev pub key : List ℕ
key = 0x01 ∷ 0x23 ∷ 0x45 ∷ 0x67 ∷ 0x89 ∷ 0xab ∷ 0xcd ∷ 0xef ∷ 0xfe ∷ 0xdc ∷ 0xba ∷ 0x98 ∷ 0x76 ∷ 0x54 ∷ 0x32 ∷ 0x10 ∷ []

abbrev pub sealed : List ℕ
sealed = covered_p12 ++ (0x7f ∷ 0x00 ∷ 0x0b ∷ 5 ∷ 4 ∷ 64 ∷ 0xa4 ∷ 0x7a ∷ 0x92 ∷ 0x99 ∷ 0xc7 ∷ 0xb8 ∷ 0x45 ∷ 0x6c ∷ [])

-- what was agreed for it
abbrev pub agreed : Agreement
agreed = record { algorithm = 5; padding = 4; m = 64; master = false }

pub accepted-example : read_of agreed key sealed ≡ record { number = 0; calls = 3; contents = record { date = record { year = 2026; month = 11; day = 4 }; amount = 500; lot_at = 14; lot_len = 2 } }
unfolding pick first_of bits_n digit num_of bytes_bits flat_map words zeros xor_b zip_with xor same_row rotl leftmost filled shiftl double halves_flipped every_second front sbox fk ck CK CKs quad flat four Sbox τ L L' T T' F round rounds made R enc round_keys encrypted cipher_at method_at complete gap one_gap prefix suffix pad D algorithm_at step steps some H G mac tag_of mac_from keys_used bits_of bytes_for byte_groups tag_bytes unpack_of settings_faults key_bytes master_wrong key_bytes_wrong keys_same tag_at run_at calls_at outside any_outside two_bytes length_of value end_of field_faults digit_at two_digits year_of month_of day_of days leap days_in date_wrong lot_field_at amount_at seal_at lot_field amount_field seal_field covered amount_of expiry_faults lot_faults amount_faults seal_faults layout_faults named_values agreement_unmet tag_named seal_defined seal_calls seal_wrong slip_faults contents_of accepted_slip read_of
accepted-example = refl

pub written-example : slip_of agreed key (said 2026 11 4 (0x41 ∷ 0x37 ∷ []) 500) ≡ sealed
unfolding pick bits_n digit num_of bytes_bits flat_map words zeros xor_b zip_with xor rotl leftmost filled shiftl double halves_flipped every_second front sbox fk ck CK CKs quad flat four Sbox τ L L' T T' F round rounds made R enc round_keys encrypted cipher_at method_at complete gap one_gap prefix suffix pad D algorithm_at step steps some H G mac tag_of mac_from keys_used bits_of bytes_for byte_groups tag_bytes unpack_of tag_at run_at calls_at two_bytes length_of end_of lot_field_at amount_at seal_at covered seal_defined seal_calls digit_of expiry_value amount_value covered_of sealed_by slip_of
written-example = refl

-- a slip that names m = 1, with the first bit of that seal
abbrev pub one_bit : List ℕ
one_bit = covered_p12 ++ (0x7f ∷ 0x00 ∷ 0x04 ∷ 5 ∷ 4 ∷ 1 ∷ 0x80 ∷ [])

pub one-bit-example : (keys : List ℕ) → read_of agreed keys one_bit ≡ refused_slip 25
unfolding pick first_of same_row outside any_outside two_bytes length_of value end_of field_faults digit_at two_digits year_of month_of day_of days leap days_in date_wrong lot_field_at amount_at seal_at lot_field amount_field seal_field amount_of expiry_faults lot_faults amount_faults seal_faults layout_faults named_values agreement_unmet slip_faults read_of
one-bit-example keys = refl
