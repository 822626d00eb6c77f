-- A slip in odd lengths through C, said of every answer that the contracts of `slipseal_gather`, `slipseal_read_gathered` and
-- `slipseal_read` allow: from a record of zeros, however the slip was cut, the answer is that of the reads joined, every field
-- (`c-gathered-joined`), and its lot is read from the record's own bytes (`c-gathered-lot`); two ways to cut lead to one record
-- (`c-one-record`); bytes that are missing are 20, bytes too many 24 (`c-gathered-short`, `c-gathered-long`), and a yes stands for
-- the whole slip (`c-gathered-whole`); any record counts as the bytes that it holds (`c-any-record`), and what comes back has a
-- count of 76 at most and zeros past it (`c-gather-sound`). `slipseal_gather` keeps the contract of `add` word for word, so its
-- answers are that function's.
-- Assumes nothing.
use Rattle.std.proofs.Common.{◌≡◌, refl, sym, ap, ◌∙◌, List, [], ◌++◌, ℕ, take, drop, replicate}
use mathlib.Core.List.{flatten}
use contract.Lifetimes.{Lfts}
use borrow.Fn.Kinds.{Dens}
use Rattle.bits.specs.Once.{Allowed}
use Rattle.settings.specs.declared.Agreement.{Agreement}
use Rattle.writing.specs.Writing.{filled_to}
use Rattle.slip.specs.Gathering.{held, gathered_of}
use Rattle.slip.specs.Slip.{refused_slip, read_of}
use Rattle.slip.specs.declared.Gathered.{Gathered}
use Rattle.slip.proofs.Whole.{Accepted, Whole, whole}
use Rattle.slip.proofs.Numbers.{accepted-by, keys_read, slip_read}
use Rattle.slip.proofs.ShortOrLong.{nothing-short, nothing-long}
use Rattle.slip.proofs.AddedReads.{Added, added-to, Sound, add-sound}
use Rattle.slip.proofs.OddLengths.{read-added, read-record, lot-bytes}
use Rattle.slipseal.specs.declared.Slip.{Slip}
use Rattle.slipseal.specs.Border.{agreed_of, told_slip}
use Rattle.slipseal.proofs.AsAgreed.{as_read}
use Rattle.slipseal.proofs.Slips.{Read, contents_in}
use Rattle.slipseal.proofs.slipseal_read.Kinds as one-k
use Rattle.slipseal.proofs.slipseal_gather.Kinds as gather-k
use Rattle.slipseal.proofs.slipseal_gather.Reads as gather
use Rattle.slipseal.proofs.slipseal_read_gathered.Kinds as read-k
use Rattle.slipseal.proofs.slipseal_read_gathered.Reads as read

abbrev pub Gathering : (κs : Lfts 1) → Dens κs gather-k.ps → Type 0
Gathering κs a = Allowed gather-k.ps gather-k.r gather.Learnt κs a

abbrev pub Asked : (κs : Lfts 1) → Dens κs read-k.ps → Type 0
Asked κs a = Allowed read-k.ps read-k.r read.Learnt κs a

-- the empty record
abbrev pub zeros : Gathered
zeros = record { count = 0; bytes = replicate 80 0 }

pub zeros-empty : zeros ≡ gathered_of []
unfolding gathered_of filled_to
zeros-empty = refl

zeros-to : (reads : List (List ℕ)) (z : Gathered) → Added zeros reads z → z ≡ gathered_of (flatten reads)
zeros-to reads z run = added-to [] zeros z reads zeros-empty run

pub c-one-record : (reads others : List (List ℕ)) (z w : Gathered) → Added zeros reads z → Added zeros others w → flatten reads ≡ flatten others → z ≡ w
c-one-record reads others z w run other same = zeros-to reads z run ∙ ap gathered_of same ∙ sym (zeros-to others w other)

pub c-gather-sound : (κs : Lfts 1) (a : Dens κs gather-k.ps) (x : Gathering κs a) → Sound x.result
c-gather-sound κs a x = add-sound κs a x

-- what was asked: the agreement, the keys and the record
module _ (κs : Lfts 1) (a : Dens κs read-k.ps) where
  abbrev pub agreement_asked : Agreement
  agreement_asked = agreed_of a.0

  abbrev pub keys_asked : List ℕ
  keys_asked = a.1.0.now

  abbrev pub record_asked : Gathered
  record_asked = a.1.1.0

module _ (κs : Lfts 1) (a : Dens κs read-k.ps) (y : Asked κs a) where
  abbrev A : Agreement
  A = agreement_asked κs a

  abbrev keys : List ℕ
  keys = keys_asked κs a

  pub c-any-record : (g : Gathered) (reads : List (List ℕ)) → Added g reads (record_asked κs a) → y.result ≡ told_slip (read_of A keys (held g ++ flatten reads))
  c-any-record g reads run = y.ensures ∙ ap told_slip (read-added A keys g _ reads run)

  module _ (reads : List (List ℕ)) (run : Added zeros reads (record_asked κs a)) where
    joined_is : y.result ≡ told_slip (read_of A keys (flatten reads))
    joined_is = y.ensures ∙ ap told_slip (read-record A keys (flatten reads) _ (zeros-to reads _ run))

    -- as `slipseal_read` answers for the reads joined in one piece
    pub c-gathered-joined : (λs : Lfts 2) (b : Dens λs one-k.ps) (x : Read λs b) → agreed_of b.0 ≡ A → keys_read λs (as_read λs b) ≡ keys → slip_read λs (as_read λs b) ≡ flatten reads → y.result ≡ x.result
    c-gathered-joined λs b x agreed keyed lent = joined_is ∙ sym (x.ensures ∙ λ i. told_slip (read_of (agreed i) (keyed i) (lent i)))

    accepted : y.result.number ≡ 0 → Accepted A keys (flatten reads)
    unfolding told_slip
    accepted good = accepted-by A keys (flatten reads) _ (ap (λ (r : Slip). r.number) joined_is) good

    -- a yes stands for the whole slip
    pub c-gathered-whole : y.result.number ≡ 0 → Whole A keys (flatten reads)
    c-gathered-whole good = whole A keys (flatten reads) (accepted good)

    -- the bytes of the record that the answer names are those of the reads joined
    pub c-gathered-lot : take y.result.lot_len (drop y.result.lot_at (record_asked κs a).bytes) ≡ take y.result.lot_len (drop y.result.lot_at (flatten reads))
    unfolding told_slip
    c-gathered-lot =
        ap (λ (g : Gathered). take y.result.lot_len (drop y.result.lot_at g.bytes)) (zeros-to reads _ run)
        ∙ lot-bytes A keys (flatten reads) (contents_in y.result) (ap contents_in joined_is)

-- asked once, and asked again after more reads, that brought bytes
module _ (κs : Lfts 1) (a : Dens κs read-k.ps) (y : Asked κs a) (reads : List (List ℕ)) (run : Added zeros reads (record_asked κs a))
    (λs : Lfts 1) (b : Dens λs read-k.ps) (z : Asked λs b) (more : List (List ℕ)) (later : Added (record_asked κs a) more (record_asked λs b)) (some : ¬ (flatten more ≡ [])) where
  again-is : z.result ≡ told_slip (read_of (agreement_asked λs b) (keys_asked λs b) (flatten reads ++ flatten more))
  again-is = z.ensures ∙ ap told_slip (read-record _ _ _ _ (added-to (flatten reads) _ _ more (zeros-to reads _ run) later))

  -- what is accepted then got 20 before
  pub c-gathered-short : z.result.number ≡ 0 → y.result ≡ told_slip (refused_slip 20)
  unfolding told_slip
  c-gathered-short good =
      joined_is κs a y reads run
      ∙ ap told_slip (nothing-short (agreement_asked λs b) (keys_asked λs b) (flatten reads) (flatten more) some (accepted-by _ _ _ _ (ap (λ (r : Slip). r.number) again-is) good) (agreement_asked κs a) (keys_asked κs a))

  -- what was accepted gets 24 then
  pub c-gathered-long : y.result.number ≡ 0 → z.result ≡ told_slip (refused_slip 24)
  c-gathered-long good =
      again-is
      ∙ ap told_slip (nothing-long (agreement_asked κs a) (keys_asked κs a) (flatten reads) (flatten more) some (accepted κs a y reads run good) (agreement_asked λs b) (keys_asked λs b))
