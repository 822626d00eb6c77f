-- `last` meets its contract: at a number that differs the definition computes, and its keys' round keys are those given; any other
-- enciphers once (`last-at`).
-- Assumes nothing.
use Rattle.std.proofs.Common.{rules, ◌≡◌, take, refl, sym, ap, ◌∙◌}
use mathlib.Core.Logic.{inl, inr}
use Rattle.bits.specs.Choice.{pick}
use Rattle.bits.specs.Str.{bytes_bits, words, xor_b, zeros, double}
use Rattle.cipher.specs.Ciphers.{cipher_at, enc_at, dec_at}
use Rattle.mac.specs.Algorithm.{algorithm_at, steps}
use Rattle.block.proofs.Windows.{blank}
use Rattle.chain.proofs.Firsts.{first-xor, first-blank}
use Rattle.chain.proofs.Rows.{last-at, k-is, k'-is, d'-is}
use Rattle.chain.proofs.last.Goals as goal

pub returns-in-2 : goal.returns-in-2
unfolding algorithm_at steps
returns-in-2 c =
    let k = c.args.k.now in
    let z = take (cipher_at k.cipher).n (bytes_bits c.args.z) in
    let twice = c.enc-in-2.ensures ∙ ap (enc_at k.cipher (words k.rounds.second)) c.enc.ensures in
    elim c.in-2.is [
      | inl two ↦ rw two (λ K e. twice ∙ (λ i. k'-is k.cipher 2 k.rounds K e refl i (k-is k.cipher 2 k.rounds K e i z)))
      | inr four ↦ rw four (λ K e. twice ∙ (λ i. k'-is k.cipher 4 k.rounds K e refl i (k-is k.cipher 4 k.rounds K e i z)))
    ]

pub returns-in-3 : goal.returns-in-3
unfolding algorithm_at steps
returns-in-3 c =
    let k = c.args.k.now in
    let z = take (cipher_at k.cipher).n (bytes_bits c.args.z) in
    rw c.in-3.is
    (λ K e. c.enc-in-3-2.ensures ∙ ap (enc_at k.cipher (words k.rounds.first)) (c.dec.ensures ∙ ap (dec_at k.cipher (words k.rounds.second)) c.enc-in-3.ensures)
    ∙ (λ i. k-is k.cipher 3 k.rounds K e i (d'-is k.cipher 3 k.rounds K e refl i (k-is k.cipher 3 k.rounds K e i z))))

pub returns-in-5 : goal.returns-in-5
unfolding algorithm_at steps blank
returns-in-5 c =
    let k = c.args.k.now in
    let n = (cipher_at k.cipher).n in
    let p = (cipher_at k.cipher).poly in
    let z = take n (bytes_bits c.args.z) in
    let enciphered = c.enc-s.ensures ∙ ap (enc_at k.cipher (words k.rounds.first)) (first-blank k.cipher) in
    let masked = first-xor n c.args.z c.mask.result _ c.xor.ensures ∙ ap (xor_b z) (c.mask.ensures ∙ (λ i. pick c.args.complete (double p (enciphered i)) (double p (double p (enciphered i))))) in
    rw c.in-5.is
    (λ K e. c.enc-in-5.ensures ∙ ap (enc_at k.cipher (words k.rounds.first)) masked
    ∙ (λ i. let f = k-is k.cipher 5 k.rounds K e i in let s = f (zeros n) in f (xor_b z (pick c.args.complete (double p s) (double p (double p s))))))

pub returns-in-6 : goal.returns-in-6
unfolding algorithm_at steps
returns-in-6 c =
    let k = c.args.k.now in
    rw c.in-6.is (λ K e. c.enc-in-6.ensures ∙ (λ i. k'-is k.cipher 6 k.rounds K e refl i (take (cipher_at k.cipher).n (bytes_bits c.args.z))))

pub returns-in-8 : goal.returns-in-8
unfolding algorithm_at steps
returns-in-8 c =
    let k = c.args.k.now in
    rw c.in-8.is (λ K e. c.enc-in-8.ensures ∙ (λ i. k-is k.cipher 8 k.rounds K e i (c.turned.ensures i)))

pub returns-in_default : goal.returns-in_default
returns-in_default c K e =
    let k = c.args.k.now in
    let a = k.settings.algorithm in
    let z = take (cipher_at k.cipher).n (bytes_bits c.args.z) in
    let n2 : a ≡ 2 → ⊥ = search rules in
    let n3 : a ≡ 3 → ⊥ = search rules in
    let n4 : a ≡ 4 → ⊥ = search rules in
    let n5 : a ≡ 5 → ⊥ = search rules in
    let n6 : a ≡ 6 → ⊥ = search rules in
    let n8 : a ≡ 8 → ⊥ = search rules in
    c.enc-in_default.ensures ∙ (λ i. k-is k.cipher a k.rounds K e i z)
    ∙ sym (last-at (cipher_at k.cipher) K c.args.complete z a n2 n3 n4 n5 n6 n8)
