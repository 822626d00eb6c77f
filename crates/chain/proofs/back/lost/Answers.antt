-- `lost` meets its contract: what stands before the lost block, and what is wanted there by the blocks after it (`lost-is`).
-- Assumes nothing.
use mathlib.Core.Path.{◌≡◌, refl, sym, ap, ap₂, ◌∙◌}
use mathlib.Core.Bool.{Bool}
use mathlib.Core.List.{List}
use Prim.Native.Nat.{ℕ, suc, ◌+◌, ◌-◌, ◌*◌, ◌/◌, ◌≤◌, ◌<◌}
use native.Mathlib.Nat.{lt_of_le_of_lt, le-div_iff_mul-le, div-le_self, div-mul-le_self, add-mul}
use native.Mathlib.Numerals.{add-one}
use native.Mathlib.Omega.{arith}
use lib.ListN.{length, take, drop, length-drop}
use lib.Seq.{length-take-le, take-take}
use Rattle.bits.specs.Choice.{pick}
use Rattle.bits.specs.Str.{bytes_bits, words, leftmost}
use Rattle.bits.proofs.Lists.{take_rest}
use Rattle.bits.proofs.Packed.{length-bytes_bits, bytes_bits-drop}
use Rattle.block.specs.Block.{filled_block}
use Rattle.cipher.specs.Ciphers.{enc_at}
use Rattle.cipher.proofs.Widths.{Width, length-first}
use Rattle.cipher.proofs.Laws.{width-at, enc-backwards}
use Rattle.mac.specs.Lost.{step_back}
use Rattle.chain.specs.Chain.{width_of, begun_at, unchained, walked}
use Rattle.chain.specs.Back.{backs_of, wanted_end}
use Rattle.chain.proofs.Firsts.{first-xor}
use Rattle.chain.proofs.Rows.{inner-back-is}
use Rattle.chain.proofs.Walking.{eights}
use Rattle.chain.proofs.LostBlock.{before-begun, before-value, unchained-aim, lost-is}
use borrow.Author.Rules.{rules}
use Rattle.chain.proofs.back.lost.Lts
use Rattle.chain.proofs.back.lost.Reads
use Rattle.chain.proofs.back.lost.Tie
use Rattle.chain.proofs.back.lost.Goals as goal

-- ---- where the block ends, and how many whole blocks follow it: w is the code's width
end_is : (n w j : ℕ) → w ≡ n → (j + 1) * w ≡ suc j * n
end_is n w j e = ap₂ (λ (a b : ℕ). a * b) (add-one j) e

end-le : (n w j l : ℕ) → w ≡ n → suc j * n ≤ l → (j + 1) * w ≤ l
end-le n w j l e h = omega (arith, end_is n w j e)

-- a whole block, so a whole number of bytes
end-bytes : (n w j : ℕ) → Width n → w ≡ n → 8 * ((j + 1) * w / 8) ≡ suc j * n
end-bytes n w j W e = omega (arith, end_is n w j e, eights n W.bytes W.whole (suc j))

counted : (n w j l : ℕ) → 0 < n → w ≡ n → suc j * n ≤ l → suc j ≤ l / w
counted n w j l pos e h = let m : suc j ≤ l / n = (le-div_iff_mul-le pos).1 h in omega (arith, ap (λ (k : ℕ). l / k) e)

-- the same at the start of the call
counted-at : (c : Lts.Start Tie.the-claims Reads.Pre Reads.Post) (w : ℕ) → w ≡ width_of c.args.k.now → suc c.args.number ≤ c.args.bits / w
counted-at c w e =
    let W = width-at c.args.k.now.cipher in
    counted (width_of c.args.k.now) w c.args.number c.args.bits (omega (arith, W)) e c.requires.3

-- the blocks that follow lie in the rest of the message
following : (n w j l : ℕ) (s : List ℕ) → Width n → w ≡ n → l ≤ 8 * length s → suc j * n ≤ l
    → (l / w - j - 1) * n ≤ 8 * length (take (length s - (j + 1) * w / 8) (drop ((j + 1) * w / 8) s))
following n w j l s W e h fits =
    let at = (j + 1) * w / 8 in
    let pos : 0 < n = omega arith in
    let sum : suc j + (l / w - j - 1) ≡ l / w = omega (arith, counted n w j l pos e fits) in
    let blocks : suc j * n + (l / w - j - 1) * n ≡ l / w * n = sym (add-mul (suc j) (l / w - j - 1) n) ∙ ap (λ (k : ℕ). k * n) sum in
    let all : l / w * n ≤ l = omega (arith, ap (λ (k : ℕ). l / k * n) e, div-mul-le_self l n) in
    omega (arith, ap length (take_rest at s) ∙ length-drop at s, end-bytes n w j W e, blocks, all)

behind : (c : Lts.Start Tie.the-claims Reads.Pre Reads.Post) (w : ℕ) → w ≡ width_of c.args.k.now → (c.args.number + 1) * w / 8 ≤ length c.args.message.now
behind c w e = omega (arith, end-bytes (width_of c.args.k.now) w c.args.number (width-at c.args.k.now.cipher) e, c.requires.2, c.requires.3)

tag-long : (c : Lts.Start Tie.the-claims Reads.Pre Reads.Post) → length c.args.tag ≡ 16
tag-long c = search rules

pub overflow_add-end : goal.overflow_add-end
overflow_add-end c =
    let start = c.before.before.before in
    let a = start.args in
    let le : a.number + 1 ≤ a.bits = omega (arith, counted-at start c.width-n.result c.width-n.ensures, div-le_self a.bits c.width-n.result) in
    record { fits = lt_of_le_of_lt le start.ranges.bits.fits }

pub overflow_mul-end : goal.overflow_mul-end
overflow_mul-end c =
    let start = c.before.before.before in
    let a = start.args in
    record { fits = lt_of_le_of_lt (end-le (width_of a.k.now) c.width-n.result a.number a.bits c.width-n.ensures start.requires.3) start.ranges.bits.fits }

pub feed-hold-requires : goal.feed-hold-requires
feed-hold-requires c =
    let start = c.before.before.before.before in
    let a = start.args in
    (start.requires.0, omega (arith, end-le (width_of a.k.now) c.before.width-n.result a.number a.bits c.before.width-n.ensures start.requires.3, start.requires.2), λ h. refl)

pub slice_bounds-through-count : goal.slice_bounds-through-count
slice_bounds-through-count c = let width = c.before.before.before.before.before.before.before in behind width.before.before width.width-n.result width.width-n.ensures

pub slice_bounds-through-start : goal.slice_bounds-through-start
slice_bounds-through-start c = let width = c.before.before.before.before.before.before.before in behind width.before.before width.width-n.result width.width-n.ensures

pub nonzero_div-bits : goal.nonzero_div-bits
nonzero_div-bits c = let width = c.before.before.before.before.before.before.before.before in omega (arith, width-at width.before.before.args.k.now.cipher, width.width-n.ensures)

pub overflow_sub-bits : goal.overflow_sub-bits
overflow_sub-bits c = let width = c.before.before.before.before.before.before.before.before in omega (arith, counted-at width.before.before width.width-n.result width.width-n.ensures)

pub overflow_sub-bits-2 : goal.overflow_sub-bits-2
overflow_sub-bits-2 c = let width = c.before.before.before.before.before.before.before.before in omega (arith, counted-at width.before.before width.width-n.result width.width-n.ensures)

pub through-v-requires : goal.through-v-requires
through-v-requires c =
    let width = c.before.before.before.before.before.before.before.before in
    let start = width.before.before in
    let a = start.args in
    let w = width.width-n.result in
    following (width_of a.k.now) w a.number a.bits a.message.now (width-at a.k.now.cipher) width.width-n.ensures start.requires.2 start.requires.3

pub returns : goal.returns
unfolding leftmost wanted_end walked pick
returns c K e =
    let first_back = c.before.before.before in
    let begun = first_back.before in
    let through = begun.before in
    let end = through.before.before in
    let keys = end.before in
    let fed = keys.before.before.before in
    let begin = fed.before in
    let width = begin.before in
    let start = width.before.before in
    let a = start.args in
    let k = a.k.now in
    let p = k.settings.padding in
    let j = a.number in
    let n = width_of k in
    let W = width-at k.cipher in
    let w = width.width-n.result in
    let we = width.width-n.ensures in
    let X = bytes_bits a.message.now in
    let x = take a.bits X in
    let t = take n (bytes_bits a.tag) in
    let long : length x ≡ a.bits = length-take-le a.bits X (omega (arith, start.requires.2, length-bytes_bits a.message.now)) in
    let t-long : length t ≡ n = length-first n a.tag W (tag-long start) in
    let same : take ((j + 1) * w) X ≡ take (suc j * n) x = ap (λ (i : ℕ). take i X) (end_is n w j we) ∙ sym (take-take (suc j * n) a.bits X start.requires.3) in
    let started = before-begun k.cipher k.settings.algorithm p K a.bits j x long start.requires.3 (take ((j + 1) * w) X) same in
    let value = before-value k.cipher k.settings.algorithm p K a.bits j x long start.requires.3 (take ((j + 1) * w) X) same _ _ (begin.begin-begun.ensures K e) (fed.feed-hold.ensures K e) in
    let test = begun.begun_at.ensures ∙ ap (begun_at n p) (end_is n w j we) ∙ started in
    let bytes = ap bytes_bits (take_rest ((j + 1) * w / 8) a.message.now) ∙ bytes_bits-drop ((j + 1) * w / 8) a.message.now ∙ ap (λ (i : ℕ). drop i X) (end-bytes n w j W we) in
    let back =
    through.through-v.ensures
    ∙ (λ i. unchained n ((ap (enc_at k.cipher) keys.backwards-back.ensures ∙ enc-backwards k.cipher (words k.rounds.first) ∙ inner-back-is k.cipher k.settings.algorithm k.rounds K e) i) (a.bits / we i - j - 1) (end.end_back-last.ensures K e i) (bytes i)) in
    let aim = unchained-aim k.cipher k.settings.algorithm p K a.bits j x long start.requires.3 t t-long X _ refl back in
    c.leftmost.ensures
    ∙ ap filled_block
    (ap (λ (i : ℕ). take i (bytes_bits c.before.xor.result)) we ∙ first-xor n first_back.first_back-b.result fed.feed-hold.result.value _ c.before.xor.ensures
    ∙ lost-is k.cipher k.settings.algorithm p K a.bits j x long start.requires.3 t t-long start.requires.4 _ _
    (λ y ly cy. first_back.first_back-b.ensures K e y ly cy ∙ ap (λ (b : Bool). step_back (backs_of k K) b y) test) _ aim value)
