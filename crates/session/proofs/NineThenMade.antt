-- A session in which a finish is refused and more bits follow (01, "Numbered answers"; algorithm 4 wants two blocks): under algorithm 4
-- and padding 1, sixteen bytes come, a finish gets 9 and hands the record back, one bit more comes, and the next finish makes the tag
-- of the 129 bits with four calls. So the theorems about runs with refused calls are about something (`nine-first`, `then-made`).
-- Assumes nothing.
use Rattle.std.proofs.Common.{◌≡◌, refl, sym, ap, ap₂, ◌∙◌, true, false, List, [], ◌∷◌, ◌++◌, map, append-nil, ℕ, ◌+◌, ◌*◌, arith, length, replicate, take_all}
use Rattle.bits.specs.Choice.{pick}
use Rattle.bits.specs.Str.{Bits, bytes_bits, zeros}
use Rattle.bits.proofs.Faults.{Clear, first-clear, here, later, given-first}
use Rattle.bits.proofs.Packed.{length-bytes_bits}
use Rattle.cipher.specs.Ciphers.{cipher_at}
use Rattle.mac.specs.Padding.{method_at, complete, gap, prefix, suffix, block_count}
use Rattle.mac.specs.Algorithm.{algorithm_at}
use Rattle.mac.specs.Tag.{bits_of, bytes_for}
use Rattle.mac.specs.Session.{joined}
use Rattle.mac.proofs.TagBytes.{length-bits_of, bits_of-append}
use Rattle.settings.specs.Answers.{number_of, settings_of, Told, Made}
use Rattle.settings.specs.declared.Agreement.{Agreement}
use Rattle.settings.proofs.Numbers.{Unrefused}
use Rattle.message.specs.Faults.{too_few_blocks, room_short}
use Rattle.tag.specs.OneCall.{one_call_faults, make_of}
use Rattle.tag.proofs.Making.{one-call-numbered}
use Rattle.tag.proofs.Numbers.{made-of, make-sound}
use Rattle.tag.proofs.SameUse.{listed-count}
use Rattle.session.specs.declared.Purpose.TheVariants.{Making}
use Rattle.session.specs.declared.Session.{Session}
use Rattle.session.specs.Record.{standing, is_check}
use Rattle.session.specs.Calls.{fresh_of, start_of, end_faults, finish_faults, finish_of}
use Rattle.session.proofs.Purposes.{aimed-closed}
use Rattle.session.proofs.Stood.{stood, stood-making}
use Rattle.session.proofs.OneStep.{Offered, bits_in, finish-faults, refused-finish}
use Rattle.session.proofs.Joined.{offers, ends, answered, handed, ending, start-stood}
use Rattle.session.proofs.Accepting.{Cut, Served, accepting, end, next, stays_open, all-handed}

abbrev pub four : ℕ → Agreement
four m = record { algorithm = 4; padding = 1; m = m; master = false }

module _ (s : List ℕ) (m : ℕ) (block : List ℕ) (byte : ℕ) (room : List ℕ) (sixteen : length block ≡ 16) (u : Unrefused (make_of (four m) s (block ++ (byte ∷ [])) 129 room).0) where
  abbrev all : List ℕ
  all = block ++ (byte ∷ [])

  abbrev whole : Offered
  whole = record { bytes = block; bits = 128 }

  abbrev bit : Offered
  bit = record { bytes = byte ∷ []; bits = 1 }

  abbrev begun : Session
  begun = (start_of (four m) s 129).session

  -- sixteen bytes are those of 128 bits
  fits : length block ≡ bytes_for 128
  unfolding bytes_for
  fits = sixteen

  cut : Cut 0 (whole ∷ bit ∷ [])
  unfolding bytes_for
  cut = next fits (λ h. refl) (next refl (λ h. refl) end)

  joined-all : joined (map bits_in (whole ∷ bit ∷ [])) ≡ bits_of all 129
  unfolding joined bits_of
  joined-all =
      ap₂ (λ (x y : Bits). x ++ y) (take_all 128 (bytes_bits block) (omega (arith, length-bytes_bits block))) (append-nil (bits_of (byte ∷ []) 1))
      ∙ sym (bits_of-append block (byte ∷ []) 1) ∙ ap (λ (k : ℕ). bits_of all (8 * k + 1)) sixteen

  served : Served (four m) s all 129 room (whole ∷ bit ∷ [])
  served = accepting (four m) s all 129 room u (whole ∷ bit ∷ []) cut joined-all

  -- after the sixteen bytes
  clear : Clear (one_call_faults (four m) s (length all) 129 (room_short m (length room)))
  clear = first-clear _ (one-call-numbered (four m) s (length all) 129 (room_short m (length room))) (make-sound (four m) s all 129 room u)

  abbrev halfway : Bits
  halfway = bits_in whole ++ []

  long-half : length halfway ≡ 128
  long-half = ap length (append-nil (bits_in whole)) ∙ length-bits_of block 128 (omega arith)

  at-half : handed begun (offers whole ∷ []) ≡ stood (four m) s 129 halfway
  unfolding joined number_of
  at-half =
      ap (λ (t : Session). handed t (offers whole ∷ [])) (start-stood (four m) s 129 (ap number_of served.start))
      ∙ ap (λ (t : Session). handed t (offers whole ∷ [])) (sym (stood-making (four m) s 129 []))
      ∙ all-handed Making (replicate 16 0) (four m) s (length all) 129 (room_short m (length room)) clear [] (whole ∷ []) (next fits (λ h. refl) end) (omega (arith, long-half))
      ∙ stood-making (four m) s 129 halfway

  pub nine-first : number_of (finish_of (handed begun (offers whole ∷ [])) room).0.answer ≡ 9
  unfolding finish_faults end_faults is_check stood standing fresh_of block_count prefix suffix gap complete zeros pick method_at algorithm_at cipher_at
  nine-first =
      ap (λ (t : Session). number_of (finish_of t room).0.answer) at-half ∙ finish-faults (stood (four m) s 129 halfway) room
      ∙ given-first (later (sym (aimed-closed Making (replicate 16 0) (stood (four m) s 129 halfway)) ∙ stays_open Making (replicate 16 0) (four m) s (length all) 129 (room_short m (length room)) clear halfway (omega (arith, long-half))) (later refl (later refl (here few))))
    where
      one_block : too_few_blocks (settings_of (four m)) 128 ≡ true
      one_block = refl

      few : too_few_blocks (settings_of (four m)) (length halfway) ≡ true
      few = ap (too_few_blocks (settings_of (four m))) long-half ∙ one_block

  -- the finish that was refused is no hindrance
  pub then-made : finish_of (handed begun (offers whole ∷ ends room ∷ offers bit ∷ [])) room ≡ ending (make_of (four m) s all 129 room)
  unfolding handed answered
  then-made =
      ap (λ (t : Session). finish_of (handed t (offers bit ∷ [])) room) (refused-finish (handed begun (offers whole ∷ [])) room (λ z. absurd (omega (arith, nine-first, z)))).0
      ∙ served.finish

  pub four-calls : (make_of (four m) s all 129 room).0 ≡ Made 4
  unfolding block_count prefix suffix gap complete zeros pick method_at algorithm_at cipher_at
  four-calls =
      ap (λ (r : Told × List ℕ). r.0) (made-of (four m) s all 129 room u)
      ∙ ap Made (listed-count (four m) s all 129 room (make-sound (four m) s all 129 room u))
