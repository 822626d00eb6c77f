-- No second answer: what it is for a contract to fix a function's result and the last values of all that was lent to it.
-- The statement is about the function's own contract as the checker reads it (`Asked` and `Learnt` of its `Reads`), so a
-- contract that is weakened has no such theorem any more.
-- Assumes nothing.
use Rattle.std.specs.Prelude.{ℕ, ◌≡◌, List}
use contract.Lifetimes.{Lfts}
use denote.Triple.Clauses.{Lasts, at_exit}
use denote.Triple.Walked.{Fit}
use borrow.Fn.Kind.{ParamKind, ResultKind}
use borrow.Fn.Kinds.{res_t, In, Out, Dens, GoodsP, ended_of, stays}

-- an answer to a call at the arguments a: the result, what stands in each lent buffer at the end, that both are values of
-- their types, and what the contract ensures of them. It is what a caller is told
pub record Allowed {n : ℕ} (ps : List (ParamKind n)) (r : ResultKind n) (Q : Out n ps r) (κs : Lfts n) (a : Dens κs ps) : Type 0 where
  pub result : (res_t r κs).Denot
  pub last : Lasts (ended_of n ps r) κs a
  pub ok : r.is.Ok κs result
  pub kept : Fit (ended_of n ps r) (stays ps) κs a last
  pub ensures : Q κs a result (at_exit (ended_of n ps r) κs a last)

module _ {n : ℕ} (ps : List (ParamKind n)) (r : ResultKind n) (P : In n ps) (Q : Out n ps r) where
  -- two answers at the same arguments, for which what the contract requires holds, agree in what is seen of the result and
  -- in every lent buffer
  abbrev pub UniqueBy : {B : Type 0} → ((κs : Lfts n) → (res_t r κs).Denot → B) → Type 0
  UniqueBy see = (κs : Lfts n) (a : Dens κs ps) → GoodsP κs ps a → P κs a → (x y : Allowed ps r Q κs a) → (see κs x.result ≡ see κs y.result) × (x.last ≡ y.last)

  -- they are one
  abbrev pub Unique : Type 0
  Unique = (κs : Lfts n) (a : Dens κs ps) → GoodsP κs ps a → P κs a → (x y : Allowed ps r Q κs a) → (x.result ≡ y.result) × (x.last ≡ y.last)
