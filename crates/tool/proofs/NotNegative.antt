-- A signed number that was tested not to be negative, cast to a `usize`: the cast is defined, and it fits. At every width.
-- Assumes nothing.
use mathlib.Core.Path.{◌≡◌, sym, subst}
use mathlib.Core.Bool.{Bool, false, not}
use lib.IntN.{ℤ, pos, nat_abs}
use lib.Dec.{T, ltb}
use lib.Signed.{non_neg, lt_z, lt_z_no, yes_non_neg}
use mir.Syntax.{Width, w64}
use mir.Val.{Fits, SFits, bits, hbits, to_z, of_z}
use mir.Facts.{Fits-nat_abs, to_z-of_z}

not_negative : (z : ℤ) → lt_z z (pos 0) ≡ false → T (non_neg z)
not_negative z e = yes_non_neg {z = z} (lt_z_no {a = z} {b = pos 0} (subst (λ (b : Bool). T (not b)) (sym e) tt))

pub cast-not-negative : (w : Width) (z : ℤ) → T (ltb (hbits w) (bits w64)) → SFits w z → lt_z (to_z w (of_z w z)) (pos 0) ≡ false → T (non_neg (to_z w (of_z w z))) × Fits w64 (nat_abs (to_z w (of_z w z)))
cast-not-negative w z t f e = (not_negative (to_z w (of_z w z)) e, subst (λ (x : ℤ). Fits w64 (nat_abs x)) (sym (to_z-of_z f)) (Fits-nat_abs t f))
