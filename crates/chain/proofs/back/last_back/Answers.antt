-- `last_back` meets its contract: at a number that differs the definition computes, and its keys' round keys are those given; any other
-- deciphers once (`last-back-at`).
-- Assumes nothing.
use Rattle.std.proofs.Common.{rules, ◌≡◌, Bool, true, false, not, take, refl, sym, ap, ◌∙◌}
use mathlib.Core.Logic.{inl, inr}
use Rattle.bits.specs.Choice.{pick}
use Rattle.bits.specs.Str.{Bits, bytes_bits, words, xor_b, zeros, rotl, rotr, double}
use Rattle.cipher.specs.Ciphers.{cipher_at, enc_at, dec_at}
use Rattle.mac.specs.Algorithm.{algorithm_at}
use Rattle.mac.specs.Lost.{backs}
use Rattle.block.proofs.Windows.{blank}
use Rattle.chain.proofs.Firsts.{first-xor, first-blank}
use Rattle.chain.proofs.Rows.{last-back-at, k-is, k'-is, d-is, d'-is}
use Rattle.chain.proofs.back.last_back.Goals as goal

pub returns-in-2 : goal.returns-in-2
unfolding algorithm_at backs
returns-in-2 c =
    let k = c.args.k.now in
    let g = take (cipher_at k.cipher).n (bytes_bits c.args.g) in
    let twice = c.dec-in-2.ensures ∙ ap (dec_at k.cipher (words k.rounds.first)) c.dec.ensures in
    elim c.in-2.is [
      | inl two ↦ rw two (λ K e. twice ∙ (λ i. d-is k.cipher 2 k.rounds K e i (d'-is k.cipher 2 k.rounds K e refl i g)))
      | inr four ↦ rw four (λ K e. twice ∙ (λ i. d-is k.cipher 4 k.rounds K e i (d'-is k.cipher 4 k.rounds K e refl i g)))
    ]

pub returns-in-3 : goal.returns-in-3
unfolding algorithm_at backs
returns-in-3 c =
    let k = c.args.k.now in
    let g = take (cipher_at k.cipher).n (bytes_bits c.args.g) in
    rw c.in-3.is
    (λ K e. c.dec-in-3-2.ensures ∙ ap (dec_at k.cipher (words k.rounds.first)) (c.enc.ensures ∙ ap (enc_at k.cipher (words k.rounds.second)) c.dec-in-3.ensures)
    ∙ (λ i. d-is k.cipher 3 k.rounds K e i (k'-is k.cipher 3 k.rounds K e refl i (d-is k.cipher 3 k.rounds K e i g))))

pub returns-in-5 : goal.returns-in-5
unfolding algorithm_at backs blank
returns-in-5 c =
    let k = c.args.k.now in
    let n = (cipher_at k.cipher).n in
    let p = (cipher_at k.cipher).poly in
    let g = take n (bytes_bits c.args.g) in
    let enciphered = c.enc-s.ensures ∙ ap (enc_at k.cipher (words k.rounds.first)) (first-blank k.cipher) in
    rw c.in-5.is
    (λ K e. first-xor n c.dec-in-5.result c.mask.result _ c.xor.ensures
    ∙ (λ i. xor_b (c.dec-in-5.ensures i) ((c.mask.ensures ∙ (λ j. pick c.args.complete (double p (enciphered j)) (double p (double p (enciphered j))))) i))
    ∙ (λ i. let s = k-is k.cipher 5 k.rounds K e i (zeros n) in
    xor_b (d-is k.cipher 5 k.rounds K e i g) (pick c.args.complete (double p s) (double p (double p s)))))

pub returns-in-6 : goal.returns-in-6
unfolding algorithm_at backs
returns-in-6 c =
    let k = c.args.k.now in
    rw c.in-6.is (λ K e. c.dec-in-6.ensures ∙ (λ i. d'-is k.cipher 6 k.rounds K e refl i (take (cipher_at k.cipher).n (bytes_bits c.args.g))))

-- the turns exchanged
exchanged : (b : Bool) (u v : Bits) → pick (not b) u v ≡ pick b v u
unfolding pick
exchanged true u v = refl
exchanged false u v = refl

pub returns-in-8 : goal.returns-in-8
unfolding algorithm_at backs
returns-in-8 c =
    let k = c.args.k.now in
    let g = take (cipher_at k.cipher).n (bytes_bits c.args.g) in
    rw c.in-8.is
    (λ K e. c.turned.ensures ∙ exchanged c.args.complete _ _
    ∙ (λ i. let u = (c.dec-in-8.ensures ∙ (λ j. d-is k.cipher 8 k.rounds K e j g)) i in pick c.args.complete (rotl 1 u) (rotr 1 u)))

pub returns-in_default : goal.returns-in_default
returns-in_default c K e =
    let k = c.args.k.now in
    let a = k.settings.algorithm in
    let g = take (cipher_at k.cipher).n (bytes_bits c.args.g) in
    let n2 : a ≡ 2 → ⊥ = search rules in
    let n3 : a ≡ 3 → ⊥ = search rules in
    let n4 : a ≡ 4 → ⊥ = search rules in
    let n5 : a ≡ 5 → ⊥ = search rules in
    let n6 : a ≡ 6 → ⊥ = search rules in
    let n8 : a ≡ 8 → ⊥ = search rules in
    c.dec-in_default.ensures ∙ (λ i. d-is k.cipher a k.rounds K e i g)
    ∙ sym (last-back-at (cipher_at k.cipher) K c.args.complete g a n2 n3 n4 n5 n6 n8)
