-- The algorithms by their numbers: what holds of algorithm 1 at every number and of each other at its own holds of `algorithm_at a`
-- (`by_number`). All that is shown of an algorithm by its number goes by this one split.
-- Assumes nothing.
use mathlib.Core.Path.{◌≡◌, refl}
use Prim.Native.Nat.{ℕ, zero, suc, ◌≤◌}
use native.Mathlib.Omega.{arith}
use Rattle.mac.specs.Algorithm.{Algorithm, alg1, alg2, alg3, alg4, alg5, alg6, alg7, alg8, algorithm_at, row}

module _ (P : ℕ → Algorithm → Type 0) (p1 : (a : ℕ) → P a alg1) (p2 : P 2 alg2) (p3 : P 3 alg3) (p4 : P 4 alg4) (p5 : P 5 alg5) (p6 : P 6 alg6) (p7 : P 7 alg7) (p8 : P 8 alg8) where
  pub by_number : (a : ℕ) → P a (algorithm_at a)
  unfolding algorithm_at
  by_number zero = p1 0
  by_number (suc zero) = p1 1
  by_number (suc (suc zero)) = p2
  by_number (suc (suc (suc zero))) = p3
  by_number (suc (suc (suc (suc zero)))) = p4
  by_number (suc (suc (suc (suc (suc zero))))) = p5
  by_number (suc (suc (suc (suc (suc (suc zero)))))) = p6
  by_number (suc (suc (suc (suc (suc (suc (suc zero))))))) = p7
  by_number (suc (suc (suc (suc (suc (suc (suc (suc zero)))))))) = p8
  by_number (suc (suc (suc (suc (suc (suc (suc (suc (suc a))))))))) = p1 (suc (suc (suc (suc (suc (suc (suc (suc (suc a)))))))))

-- no algorithm asks for more than two blocks
pub least-two : (A : Algorithm) → (row A).least ≤ 2
least-two alg1 = omega arith
least-two alg2 = omega arith
least-two alg3 = omega arith
least-two alg4 = omega arith
least-two alg5 = omega arith
least-two alg6 = omega arith
least-two alg7 = omega arith
least-two alg8 = omega arith

-- a number that is none of 2 to 8
pub other-number : (a : ℕ) → (a ≡ 2 → ⊥) → (a ≡ 3 → ⊥) → (a ≡ 4 → ⊥) → (a ≡ 5 → ⊥) → (a ≡ 6 → ⊥) → (a ≡ 7 → ⊥) → (a ≡ 8 → ⊥) → algorithm_at a ≡ alg1
other-number =
    by_number (λ a A. (a ≡ 2 → ⊥) → (a ≡ 3 → ⊥) → (a ≡ 4 → ⊥) → (a ≡ 5 → ⊥) → (a ≡ 6 → ⊥) → (a ≡ 7 → ⊥) → (a ≡ 8 → ⊥) → A ≡ alg1)
    (λ a n2 n3 n4 n5 n6 n7 n8. refl)
    (λ n2 n3 n4 n5 n6 n7 n8. absurd (n2 refl))
    (λ n2 n3 n4 n5 n6 n7 n8. absurd (n3 refl))
    (λ n2 n3 n4 n5 n6 n7 n8. absurd (n4 refl))
    (λ n2 n3 n4 n5 n6 n7 n8. absurd (n5 refl))
    (λ n2 n3 n4 n5 n6 n7 n8. absurd (n6 refl))
    (λ n2 n3 n4 n5 n6 n7 n8. absurd (n7 refl))
    (λ n2 n3 n4 n5 n6 n7 n8. absurd (n8 refl))
