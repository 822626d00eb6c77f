-- No second answer satisfies any public function's contract.
-- Assumes nothing.
use mathlib.Core.Path.{refl}
use borrow.Author.Rules.{rules}
use denote.Param.Laws.{Laws, IsCopy}
use denote.RattleType.{RattleType}
use mir.Syntax.{Dict}
use Rattle.std.specs.declared.clone.Clone.{Ghosts}
use Rattle.bits.specs.Once.{Unique}
use Rattle.bits.proofs.Same.{same, same_number, same_bytes}
use Rattle.bits.proofs.rotl32.Kinds as rotl32-k
use Rattle.bits.proofs.rotl32.Reads as rotl32
use Rattle.bits.proofs.word.Kinds as word-k
use Rattle.bits.proofs.word.Reads as word
use Rattle.bits.proofs.bytes.Kinds as bytes-k
use Rattle.bits.proofs.bytes.Reads as bytes
use Rattle.bits.proofs.funnel.Kinds as funnel-k
use Rattle.bits.proofs.funnel.Reads as funnel
use Rattle.bits.proofs.first.Kinds as first-k
use Rattle.bits.proofs.first.Reads as first
use Rattle.bits.proofs.first_fault.Kinds as first_fault-k
use Rattle.bits.proofs.first_fault.Reads as first_fault

pub rotl32-unique : Unique rotl32-k.ps rotl32-k.r rotl32.Asked rotl32.Learnt
rotl32-unique κs a g p x y = (same_number 32 x.ok y.ok x.ensures y.ensures, refl)

pub word-unique : Unique word-k.ps word-k.r word.Asked word.Learnt
word-unique κs a g p x y = (same_number 32 x.ok y.ok x.ensures y.ensures, refl)

pub bytes-unique : Unique bytes-k.ps bytes-k.r bytes.Asked bytes.Learnt
bytes-unique κs a g p x y = (same_bytes 4 (search rules) (search rules) x.ensures y.ensures, refl)

pub funnel-unique : Unique funnel-k.ps funnel-k.r funnel.Asked funnel.Learnt
funnel-unique κs a g p x y = (same_number 8 x.ok y.ok x.ensures y.ensures, refl)

pub first-unique : Unique first-k.ps first-k.r first.Asked first.Learnt
first-unique κs a g p x y = (same x.ensures y.ensures, refl)

pub first_fault-unique : (T : RattleType) (laws : Laws T) (copy : IsCopy T) (clones : Ghosts T.Denot) (dict : Dict)
    → Unique (first_fault-k.ps T laws copy) (first_fault-k.r T laws copy) (first_fault.Asked T laws copy clones dict) (first_fault.Learnt T laws copy clones dict)
first_fault-unique T laws copy clones dict κs a g p x y = (same x.ensures y.ensures, refl)
