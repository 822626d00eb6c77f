-- Unpacking the keys, over any block cipher: two calls under a master, else none (`used-calls`). The list of calls for a tag begins
-- with them: e_M(1) and e_M(2), then the calls of the tag under the keys in use (`derivation-first`); it is so much longer
-- (`from-count`), and what comes out is the tag under the keys in use (`from-tag`). The two keys that a master makes always differ
-- (`derived-differ`), so refusal 5 never comes of a master that is given alone; and K' and K'' always differ, under a master or without
-- (`second-third-differ`), so nothing needs to refuse keys for that (02 §7).
-- Assumes nothing.
use mathlib.Core.Path.{◌≡◌, refl, sym, ap, ◌∙◌}
use mathlib.Core.Bool.{Bool, true, false}
use mathlib.Core.List.{◌∷◌}
use Prim.Native.Nat.{ℕ, ◌+◌, ◌^◌, ◌≤◌}
use native.Mathlib.Omega.{arith}
use lib.Pow.{pow_mono}
use lib.ListN.{length, length-append}
use Rattle.bits.specs.Choice.{pick}
use Rattle.bits.specs.Str.{Bits, bits_n}
use Rattle.bits.proofs.Numbers.{length-bits_n, bits_n-inj}
use Rattle.bits.proofs.Groups.{second-differs}
use Rattle.cipher.specs.Cipher.{Cipher, Lawful}
use Rattle.mac.specs.Run.{Call, Run, forward, ◌then◌, ◌giving◌}
use Rattle.mac.specs.Padding.{Method, block_count}
use Rattle.mac.specs.Algorithm.{Algorithm, row, Keys, keys}
use Rattle.mac.specs.Tag.{mac, tag_of, calls_of}
use Rattle.mac.specs.Derive.{derived, keys_used, mac_from}
use Rattle.mac.proofs.Calls.{calls_count}

module _ (C : Cipher) where
  pub used-calls : (master : Bool) (A : Algorithm) (g h : Bits) → length (keys_used C master A g h).calls ≡ pick master 2 0
  unfolding keys_used derived pick
  used-calls false A g h = refl
  used-calls true A g h = go (row A).third
    where
      go : (b : Bool) → length (pick b (derived C h giving λ d. record { k = g; k' = d.0; k'' = d.1 }) (derived C g giving λ d. keys d.0 d.1)).calls ≡ 2
      go true = refl
      go false = refl

  module _ (A : Algorithm) (M : Method) (R : Run Keys) (m : ℕ) (x : Bits) where
    pub from-tag : (mac_from C A M R m x).out ≡ tag_of C A M R.out m x
    unfolding mac_from tag_of
    from-tag = refl

    pub from-count : Lawful C → (row A).least ≤ block_count M C.n (length x) → length (mac_from C A M R m x).calls ≡ length R.calls + (block_count M C.n (length x) + (row A).further)
    unfolding mac_from calls_of
    from-count L h = length-append R.calls (mac C A M R.out m x).calls ∙ ap (λ (k : ℕ). length R.calls + k) (calls_count C L A M R.out m x h)

  -- the call e_M of the counter i
  abbrev counted : Bits → ℕ → Call
  counted M i = record { way = forward; key = M; block = bits_n C.n i }

  pub derivation-first : (A : Algorithm) (M : Method) (g h : Bits) (m : ℕ) (x : Bits)
      → let master = pick (row A).third h g in
      let R = keys_used C true A g h in
      (mac_from C A M R m x).calls ≡ counted master 1 ∷ counted master 2 ∷ calls_of C A M R.out m x
  unfolding keys_used derived mac_from calls_of pick
  derivation-first A M g h m x = go (row A).third
    where
      go : (b : Bool)
          → let master = pick b h g in
          let R = pick b (derived C h giving λ d. record { k = g; k' = d.0; k'' = d.1 }) (derived C g giving λ d. keys d.0 d.1) in
          (R then λ K. mac C A M K m x).calls ≡ counted master 1 ∷ counted master 2 ∷ (mac C A M R.out m x).calls
      go true = refl
      go false = refl

  -- two blocks that differ are enciphered to two that differ: a master never makes one key twice
  pub derived-differ : Lawful C → 2 ≤ C.n → (M : Bits) → ¬ ((derived C M).out.0 ≡ (derived C M).out.1)
  unfolding derived
  derived-differ L two M e = absurd (omega (arith, bits_n-inj C.n 1 2 (omega (arith, large)) (omega (arith, large)) same))
    where
      large : 2 ^ 2 ≤ 2 ^ C.n
      large = pow_mono two

      same : bits_n C.n 1 ≡ bits_n C.n 2
      same = sym (L.decrypt-encrypt M _ (length-bits_n C.n 1)) ∙ ap (C.decrypt M) e ∙ L.decrypt-encrypt M _ (length-bits_n C.n 2)

  second-long : Lawful C → (M : Bits) → length (derived C M).out.1 ≡ C.n
  unfolding derived
  second-long L M = L.encrypt-long M _ (length-bits_n C.n 2)

  -- complemented, K'' has other first bits than K'; derived, the two come of two blocks
  pub second-third-differ : Lawful C → 2 ≤ C.n → (master : Bool) (A : Algorithm) (g h : Bits) → 1 ≤ length h
      → let K = (keys_used C master A g h).out in
      ¬ (K.k' ≡ K.k'')
  unfolding keys_used pick
  second-third-differ L two false A g h some = second-differs h some
  second-third-differ L two true A g h some = go (row A).third
    where
      go : (b : Bool)
          → let K = (pick b (derived C h giving λ d. record { k = g; k' = d.0; k'' = d.1 }) (derived C g giving λ d. keys d.0 d.1)).out in
          ¬ (K.k' ≡ K.k'')
      go true = derived-differ L two h
      go false = second-differs (derived C g).out.1 (omega (arith, second-long L g))
