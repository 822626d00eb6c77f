-- The rounds one by one, as both loops make them, under 32 keys, which are round keys or the constants CK: after i rounds the state is
-- that of the definition, and it is ready for the next key, where there is one.
-- Assumes nothing.
use mathlib.Core.Path.{◌≡◌, refl, sym, ap, ap₂, subst, ◌∙◌}
use mathlib.Core.List.{List, [], ◌∷◌, ◌++◌}
use Prim.Native.Nat.{ℕ, ◌+◌, ◌≤◌, ◌<◌, ◌%◌}
use native.Mathlib.Omega.{arith}
use lib.ListN.{length, take, get_or, set, length-map}
use lib.Seq.{take_all}
use Rattle.std.proofs.lemmas.List.{take_more}
use Rattle.bits.specs.Str.{Bits, bits_n, words}
use Rattle.bits.proofs.Packed.{words-set}
use Rattle.sm4.specs.Constants.{CK, CKs}
use Rattle.sm4.specs.Cipher.{Quad, F, round, rounds, made}
use Rattle.sm4.specs.Split.{joined, Ready, Stepped}
use Rattle.sm4.specs.declared.Split.{Split}
use Rattle.sm4.proofs.Listed.{listed}
use Rattle.sm4.proofs.Laws.{words-at}

-- ---- one key more

pub rounds-snoc : (t : Bits → Bits) (X : Quad) (ks : List Bits) (k : Bits) → rounds t X (ks ++ (k ∷ [])) ≡ round t (rounds t X ks) k
unfolding rounds
rounds-snoc t X [] k = refl
rounds-snoc t X (j ∷ ks) k = rounds-snoc t (round t X j) ks k

made-snoc : (t : Bits → Bits) (X : Quad) (ks : List Bits) (k : Bits) → made t X (ks ++ (k ∷ [])) ≡ made t X ks ++ (F t (rounds t X ks) k ∷ [])
unfolding rounds made
made-snoc t X [] k = refl
made-snoc t X (j ∷ ks) k = ap (λ (l : List Bits). F t X j ∷ l) (made-snoc t (round t X j) ks k)

-- ---- the walk

pub record Walked (t : Bits → Bits) (ks : List Bits) (s₀ s : Split) (i : ℕ) : Type 0 where
  pub all : length ks ≡ 32
  pub most : i ≤ 32
  pub state : joined s ≡ rounds t (joined s₀) (take i ks)
  pub ready : i < 32 → Ready s (get_or ks i [])

module _ (t : Bits → Bits) (ks : List Bits) where
  pub walk_start : (s : Split) (k : Bits) → length ks ≡ 32 → k ≡ get_or ks 0 [] → Ready s k → Walked t ks s s 0
  unfolding rounds
  walk_start s k all e h = record { all = all; most = omega arith; state = refl; ready = λ _. subst (Ready s) e h }

  module _ (s₀ s r : Split) (i : ℕ) (w : Walked t ks s₀ s i) (below : i < 32) (k : Bits) (e : i + 1 < 32 → k ≡ get_or ks (i + 1) []) (step : Stepped t s r k) where
    new : joined r ≡ round t (rounds t (joined s₀) (take i ks)) (get_or ks i [])
    new = step.goes _ (w.ready below) ∙ ap (λ X. round t X (get_or ks i [])) w.state

    more : take (i + 1) ks ≡ take i ks ++ (get_or ks i [] ∷ [])
    more = take_more ks i [] (omega (arith, w.all))

    pub walk-on : Walked t ks s₀ r (i + 1)
    walk-on =
        record {
          all = w.all;
          most = omega arith;
          state = new ∙ sym (rounds-snoc t (joined s₀) (take i ks) (get_or ks i [])) ∙ ap (rounds t (joined s₀)) (sym more);
          ready = λ h. subst (Ready r) (e h) step.ready;
        }

    -- where the words made so far are written, the newest word is the next
    pub made-on : (v : ℕ) (l : List ℕ) → i < length l → bits_n 32 v ≡ (joined r).x3 → words (take i l) ≡ made t (joined s₀) (take i ks)
        → words (take (i + 1) (set l i v)) ≡ made t (joined s₀) (take (i + 1) ks)
    unfolding round
    made-on v l h newest before =
        words-set l i v h
        ∙ ap₂ (λ (ws : List Bits) (w : Bits). ws ++ (w ∷ [])) before (newest ∙ ap (λ (Y : Quad). Y.x3) new)
        ∙ sym (made-snoc t (joined s₀) (take i ks) (get_or ks i []))
        ∙ ap (made t (joined s₀)) (sym more)

  pub walk_end : (s₀ s : Split) (i : ℕ) (X : Quad) → Walked t ks s₀ s i → 32 ≤ i → joined s₀ ≡ X → joined s ≡ rounds t X ks
  walk_end s₀ s i X w h e = w.state ∙ ap₂ (rounds t) e (take_all i ks (omega (arith, w.all)))

-- ---- under round keys, as the code has them

module _ (t : Bits → Bits) (rk : List ℕ) (all : length rk ≡ 32) where
  key-at : (i : ℕ) → i < 32 → bits_n 32 (get_or rk i 0) ≡ get_or (words rk) i []
  key-at i h = sym (words-at rk i (omega (arith, all)))

  pub keys-start : (s : Split) → Ready s (bits_n 32 (get_or rk 0 0)) → Walked t (words rk) s s 0
  unfolding words
  keys-start s = walk_start t (words rk) s _ (length-map rk (bits_n 32) ∙ all) (key-at 0 (omega arith))

  pub keys_on : (s₀ s r : Split) (i : ℕ) → Walked t (words rk) s₀ s i → i < 32 → Stepped t s r (bits_n 32 (get_or rk ((i + 1) % 32) 0))
      → Walked t (words rk) s₀ r (i + 1)
  keys_on s₀ s r i w h = walk-on t (words rk) s₀ s r i w h _ (λ h. ap (λ (n : ℕ). bits_n 32 (get_or rk n 0)) (omega arith) ∙ key-at (i + 1) h)

-- ---- under the constants

pub length-CKs : length (CKs 32 0) ≡ 32
unfolding CKs
length-CKs = refl

pub CK-at : (i : ℕ) → i < 32 → CK i ≡ get_or (CKs 32 0) i []
unfolding CKs
CK-at i h = sym (listed CK CKs (λ i. refl) (λ n i. refl) 32 i [] h)
