-- Every second group of four bits complemented is xor with F0 in each byte: eight bits at a time (`every_second-xor`). So the first four
-- bits are complemented (`second-flipped`), and no string but the empty one stays as it is (`second-differs`), at any width.
-- Assumes nothing.
use mathlib.Core.Path.{◌≡◌, refl, sym, ap, ap₂, ◌∙◌}
use mathlib.Core.Bool.{Bool, true, false, not, true≢false}
use mathlib.Core.List.{[], ◌∷◌, ◌++◌, map, flat_map, zip_with}
use Prim.Native.Nat.{ℕ, zero, suc, ◌*◌, ◌/◌, ◌≤◌}
use native.Mathlib.Omega.{arith}
use lib.ListN.{length, take, drop, get_or, replicate, length-drop, length-map, take-append-drop}
use lib.Seq.{drop-drop, length-take-le, take_at}
use Rattle.bits.specs.Str.{Bits, digit, bits_n, bytes_bits, zeros, xor_b, halves_flipped, every_second}
use Rattle.bits.proofs.Strings.{xor-true, xor_b-append, xor_b-zeros, length-zeros}

xor_b-ones : (w : Bits) → xor_b w (replicate (length w) true) ≡ map not w
unfolding xor_b zip_with
xor_b-ones [] = refl
xor_b-ones (b ∷ w) = ap₂ (λ (c : Bool) (v : Bits). c ∷ v) (xor-true b) (xor_b-ones w)

module _ (w rest : Bits) (h : 8 ≤ length w) where
  four-ones : xor_b (take 4 w) (replicate 4 true) ≡ map not (take 4 w)
  four-ones = ap (λ (n : ℕ). xor_b (take 4 w) (replicate n true)) (sym (length-take-le 4 w (omega arith))) ∙ xor_b-ones (take 4 w)

  four-zeros : xor_b (take 4 (drop 4 w)) (zeros 4) ≡ take 4 (drop 4 w)
  four-zeros =
      ap (λ (n : ℕ). xor_b (take 4 (drop 4 w)) (zeros n)) (sym (length-take-le 4 (drop 4 w) (omega (arith, length-drop 4 w))))
      ∙ xor_b-zeros (take 4 (drop 4 w))

  in_parts : w ≡ take 4 w ++ (take 4 (drop 4 w) ++ drop 8 w)
  in_parts =
      sym (ap (λ (v : Bits). take 4 w ++ v) (ap (λ (v : Bits). take 4 (drop 4 w) ++ v) (sym (drop-drop 4 4 w)) ∙ take-append-drop 4 (drop 4 w))
      ∙ take-append-drop 4 w)

  xor-parts : xor_b w (replicate 4 true ++ (zeros 4 ++ rest)) ≡ map not (take 4 w) ++ (take 4 (drop 4 w) ++ xor_b (drop 8 w) rest)
  xor-parts =
      ap (λ (v : Bits). xor_b v (replicate 4 true ++ (zeros 4 ++ rest))) in_parts
      ∙ xor_b-append (take 4 w) (take 4 (drop 4 w) ++ drop 8 w) (replicate 4 true) (zeros 4 ++ rest) (length-take-le 4 w (omega arith))
      ∙ ap₂ (λ (u v : Bits). u ++ v) four-ones
      (xor_b-append (take 4 (drop 4 w)) (drop 8 w) (zeros 4) rest (length-take-le 4 (drop 4 w) (omega (arith, length-drop 4 w)) ∙ sym (length-zeros 4))
      ∙ ap (λ (v : Bits). v ++ xor_b (drop 8 w) rest) four-zeros)

none : (w : Bits) → length w ≡ 0 → w ≡ []
none [] h = refl
none (b ∷ w) h = absurd (omega arith)

halves_flipped-xor : (n : ℕ) (w : Bits) → length w ≡ 8 * n → halves_flipped n w ≡ xor_b w (bytes_bits (replicate n 0xf0))
unfolding halves_flipped bytes_bits flat_map xor_b zip_with bits_n digit zeros
halves_flipped-xor zero w h = ap (λ (v : Bits). xor_b v []) (sym (none w (omega arith)))
halves_flipped-xor (suc n) w h =
    ap (λ (v : Bits). map not (take 4 w) ++ (take 4 (drop 4 w) ++ v)) (halves_flipped-xor n (drop 8 w) (omega (arith, length-drop 8 w)))
    ∙ sym (xor-parts w (bytes_bits (replicate n 0xf0)) (omega arith)) ∙ ap (λ (v : Bits). xor_b w (v ++ bytes_bits (replicate n 0xf0))) byte
  where
    byte : replicate 4 true ++ zeros 4 ≡ bits_n 8 0xf0
    byte = refl

pub every_second-xor : (w : Bits) (n : ℕ) → length w ≡ 8 * n → every_second w ≡ xor_b w (bytes_bits (replicate n 0xf0))
unfolding every_second
every_second-xor w n h = ap (λ (m : ℕ). halves_flipped m w) eighth ∙ halves_flipped-xor n w h
  where
    eighth : length w / 8 ≡ n
    eighth = omega arith

pub second-flipped : (w : Bits) → 8 ≤ length w → take 4 (every_second w) ≡ map not (take 4 w)
unfolding every_second halves_flipped
second-flipped w h = go (length w / 8) (omega arith)
  where
    go : (k : ℕ) → 1 ≤ k → take 4 (halves_flipped k w) ≡ map not (take 4 w)
    go zero some = absurd (omega arith)
    go (suc k) some = take_at (map not (take 4 w)) _ 4 (length-map (take 4 w) not ∙ length-take-le 4 w (omega arith))

not-not : (b : Bool) → ¬ (b ≡ not b)
not-not true e = true≢false e
not-not false e = true≢false (sym e)

pub second-differs : (w : Bits) → 1 ≤ length w → ¬ (w ≡ every_second w)
unfolding every_second halves_flipped
second-differs [] h e = absurd (omega arith)
second-differs (b ∷ w) h e = go (length (b ∷ w) / 8) e
  where
    go : (k : ℕ) → ¬ (b ∷ w ≡ halves_flipped k (b ∷ w))
    go zero f = absurd (omega (arith, ap (λ (v : Bits). length v) f))
    go (suc k) f = not-not b (ap (λ (v : Bits). get_or v 0 b) f)
