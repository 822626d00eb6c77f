-- What the functions hand back is what the specs say. A start is the refusals of its settings and then that of the declared length
-- (`start-order`); the start of a check is a start and then 10 (`check-order`); what the heart says of all keys it says of the record's
-- (`keyed-for`); the tag of an open record has m bits, so that the first bytes of a block that begins with it are its bytes (`room-is`,
-- `judged-is`); the calls counted are those of the definition's list (`calls-listed`).
-- Assumes nothing.
use Rattle.std.proofs.Common.{◌≡◌, refl, sym, ap, ap₂, ◌∙◌, Bool, true, false, not, List, [], ◌∷◌, ◌++◌, ℕ, ◌+◌, ◌≤◌, arith, eqb, length, take, drop, Result, Ok, Err}
use Rattle.std.specs.Result.{is_err}
use Rattle.bits.specs.Choice.{pick, Fault, ◌given◌, first_of}
use Rattle.bits.specs.Str.{bytes_bits, zeros, same_b}
use Rattle.block.specs.Block.{storage, filled_block}
use Rattle.bits.proofs.Choice.{pick-ap}
use Rattle.bits.proofs.Faults.{all, with, Numbered, every_append}
use Rattle.bits.proofs.Same.{Bytes, same_b-bytes}
use Rattle.bits.proofs.Strings.{length-zeros}
use Rattle.mac.specs.Padding.{method_at, block_count}
use Rattle.mac.specs.Algorithm.{algorithm_at, row, Keys}
use Rattle.mac.specs.Tag.{bytes_for, tag_bytes}
use Rattle.cipher.specs.Ciphers.{cipher_at}
use Rattle.cipher.proofs.Laws.{sm4-width, width-at, lawful-at}
use Rattle.mac.proofs.TagBytes.{take-fits, tag_bytes-block, tag_bytes-fit}
use Rattle.mac.proofs.Derive.{from-count}
use Rattle.refusals.specs.Number.{number_in}
use Rattle.refusals.specs.declared.Refusal.{Refusal}
use Rattle.refusals.proofs.Number.{refusing, refusal-numbered}
use Rattle.settings.specs.InUse.{in_use, agreement_faults}
use Rattle.settings.specs.Faults.{settings_refusal}
use Rattle.settings.specs.Answers.{Told, Yes, No, number_of, settings_of}
use Rattle.settings.specs.declared.Agreement.{Agreement}
use Rattle.settings.specs.declared.Settings.{Settings}
use Rattle.settings.proofs.Numbers.{number-chosen}
use Rattle.settings.proofs.Sound.{agreement-numbered}
use Rattle.message.specs.Faults.{too_few_blocks, tag_length_wrong}
use Rattle.message.proofs.Taken.{enough-held}
use Rattle.chain.specs.Rounds.{rounds_bits, rounds_of}
use Rattle.chain.specs.Chain.{Each}
use Rattle.chain.specs.declared.keyed.Keyed.{Keyed}
use Rattle.chain.proofs.Standing.{reached-at, finish-long}
use Rattle.session.proofs.Open.{declared-few, taken, ended, room-wide}
use Rattle.session.specs.declared.Session.{Session}
use Rattle.session.specs.Record.{unpacked_in, keys_in, state_in, declared_too_long}
use Rattle.session.specs.Calls.{Stepped, start_faults, refused_start, started_by, start_of, start_check_faults, tag_in, calls_in, judged_of}

-- the shape of what comes: an answer with a record
abbrev pub of-step : Stepped → Told
of-step r = r.answer

-- what is read of two choices, where it is read alike
pub chosen-alike : {R T : Type 0} (f : R → T) (b : Bool) {x x' y y' : R} → f x ≡ f x' → f y ≡ f y' → f (pick b x y) ≡ f (pick b x' y')
chosen-alike f b {x} {x'} {y} {y'} e h = pick-ap f b x y ∙ ap₂ (pick b) e h ∙ sym (pick-ap f b x' y')

-- a judgement is an error exactly where its number is not 0
pub told_by_number : (r : Result (Unit {0}) Refusal) → is_err r ≡ not (eqb (number_in r) 0)
unfolding number_in
told_by_number (Ok x) = refl
told_by_number (Err r) = sym (ap not (refusing r refl))

-- ---- the order of a start, and of the start of a check

-- a fault after others counts where none of them is there
in-turn : (fs : List Fault) (f : Fault) → Numbered fs → first_of (fs ++ (f ∷ [])) ≡ pick (eqb (first_of fs) 0) (first_of (f ∷ [])) (first_of fs)
unfolding first_of pick
in-turn [] f all = refl
in-turn (k given true ∷ fs) f (with h o) = rw h refl
in-turn (k given false ∷ fs) f (with h o) = in-turn fs f o

module _ (A : Agreement) (s : List ℕ) (d : ℕ) where
  pub start-faults : number_of (start_of A s d).answer ≡ first_of (start_faults A s d)
  unfolding start_of started_by refused_start number_of
  start-faults = number-chosen of-step (first_of (start_faults A s d)) _ _ refl refl

  pub start-numbered : Numbered (start_faults A s d)
  unfolding start_faults
  start-numbered = every_append (agreement-numbered A s) (with refl all)

  pub start-check-numbered : (tag : ℕ) → Numbered (start_check_faults A s d tag)
  unfolding start_check_faults
  start-check-numbered tag = every_append start-numbered (with refl all)

  -- 8 is judged where the agreement and the keys are sound
  pub start-order : first_of (start_faults A s d) ≡ pick (eqb (settings_refusal A (length s) (in_use A s)) 0) (pick (declared_too_long A.padding d) 8 0) (settings_refusal A (length s) (in_use A s))
  unfolding start_faults settings_refusal first_of pick
  start-order = in-turn (agreement_faults A s) _ (agreement-numbered A s)

  -- 10 where a start is accepted
  pub check-order : (tag : ℕ) → first_of (start_check_faults A s d tag) ≡ pick (eqb (first_of (start_faults A s d)) 0) (pick (tag_length_wrong A.m tag) 10 0) (first_of (start_faults A s d))
  unfolding start_check_faults first_of pick
  check-order tag = in-turn (start_faults A s d) _ start-numbered

-- what the proofs of both look up
pub ruleset starting = (start-order, check-order, refusal-numbered, declared-few)

-- and those of a piece and of both finishes
pub ruleset judging = (refusal-numbered, taken, ended, room-wide)

-- ---- what the heart works under: SM4, an agreement's settings, round keys of the keys K. What it says of all such keys it says of K

module _ (k : Keyed) (A : Agreement) (K : Keys) (cipher : k.cipher ≡ 1) (settings : k.settings ≡ settings_of A) (rounds : rounds_bits k.rounds ≡ rounds_of 1 A.algorithm K) where
  pub keyed-for : {B : Type 0} (f : ℕ → Settings → Keys → B) {x : B} → Each k (λ L. x ≡ f k.cipher k.settings L) → x ≡ f 1 (settings_of A) K
  keyed-for f each = each K (rounds ∙ λ i. rounds_of (sym cipher i) (sym settings i).algorithm K) ∙ λ i. f (cipher i) (settings i) K

-- ---- the bytes that are put into the room, and those that are compared

module _ (s : Session) (hv : length s.hold.value ≡ 16) (hh : length s.hold.held ≡ 16) (hm : s.agreement.m ≤ storage) where
  -- the tag has m bits
  tag-long : length (tag_in s) ≡ s.agreement.m
  unfolding tag_in state_in
  tag-long =
      let A = s.agreement in
      finish-long 1 A.algorithm A.padding (keys_in s) A.m s.total (state_in s) (reached-at (cipher_at 1).n A.padding s.total s.hold (width-at 1) hv hh) (omega (arith, sm4-width))

  -- n bytes of a block that begins with the tag, and the room's own bytes after them
  pub room-is : (b room last : List ℕ) (n : ℕ) → Bytes 16 b → bytes_bits b ≡ filled_block (tag_in s) → n ≡ bytes_for s.agreement.m → last ≡ take n b ++ drop n room
      → last ≡ tag_bytes (tag_in s) ++ drop (bytes_for s.agreement.m) room
  room-is b room last n sixteen e hn h =
      h ∙ ap (λ (k : ℕ). take k b ++ drop k room) hn
      ∙ ap (λ (w : List ℕ). w ++ drop (bytes_for s.agreement.m) room) (tag_bytes-block (tag_in s) b s.agreement.m tag-long hm sixteen.long (λ i. (sixteen.each i).fits) e)

  -- of the expected bytes and of such a block the first n are compared
  pub judged-is : (b : List ℕ) (n calls : ℕ) (same : Bool) → Bytes 16 b → Bytes 16 s.expected → bytes_bits b ≡ filled_block (tag_in s) → n ≡ bytes_for s.agreement.m → calls ≡ calls_in s
      → same ≡ same_b (bytes_bits (take n s.expected)) (bytes_bits (take n b)) → pick same (Yes calls) (No calls) ≡ judged_of s
  unfolding judged_of
  judged-is b n calls same sixteen expected e hn hc h =
      ap₂ (λ (c : ℕ) (t : Bool). pick t (Yes c) (No c)) hc
      (h ∙ ap (λ (k : ℕ). same_b (bytes_bits (take k s.expected)) (bytes_bits (take k b))) hn
      ∙ ap (λ (w : List ℕ). same_b (bytes_bits (take (bytes_for s.agreement.m) s.expected)) (bytes_bits w)) (tag_bytes-block (tag_in s) b s.agreement.m tag-long hm sixteen.long (λ i. (sixteen.each i).fits) e)
      ∙ same_b-bytes _ _ (take-fits (bytes_for s.agreement.m) s.expected (λ i. (expected.each i).fits)) (tag_bytes-fit (tag_in s)))

-- ---- the calls: those for the keys, q and the further calls of the row are as many as the list for so many bits has

module _ (s : Session) where
  abbrev agreed : Agreement
  agreed = s.agreement

  pub calls-listed : (u : ℕ) → u ≡ length (unpacked_in s).calls → too_few_blocks (settings_of agreed) s.total ≡ false
      → u + (block_count (method_at agreed.padding) (cipher_at 1).n s.total + (row (algorithm_at agreed.algorithm)).further) ≡ calls_in s
  unfolding calls_in
  calls-listed u e h =
      let q = ap (block_count (method_at agreed.padding) (cipher_at 1).n) (length-zeros s.total) in
      ap₂ (λ (x y : ℕ). x + (y + (row (algorithm_at agreed.algorithm)).further)) e (sym q)
      ∙ sym (from-count (cipher_at 1) (algorithm_at agreed.algorithm) (method_at agreed.padding) (unpacked_in s) agreed.m (zeros s.total) (lawful-at 1) (omega (arith, enough-held (settings_of agreed) s.total h, q)))
