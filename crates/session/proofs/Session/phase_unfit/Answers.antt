-- `phase_unfit` meets its contract: a phase does not fit where it is another than the total's.
-- Assumes nothing.
use Rattle.std.proofs.Common.{◌≡◌, ℕ, ◌%◌, eqb, not, Bool, true, false, refl, ap, ◌∙◌, arith}
use Rattle.std.proofs.lemmas.Bool.Decides.{nat_tests}
use Rattle.bits.specs.Choice.{pick}
use Rattle.session.specs.contracts.PhasePartialEq.TheImpl as phases
use Rattle.session.specs.declared.Phase.{Phase}
use Rattle.session.specs.declared.Phase.TheVariants.{Closed, Edge, Part}
use Rattle.session.specs.Record.{phase_at, phase_unfit}
use Rattle.session.proofs.Session.phase_unfit.Goals as goal

abbrev equal : Phase → Phase → Bool
equal = (phases.ghosts).eq

other : (p : Phase) (l : ℕ) → not (equal p (phase_at l)) ≡ phase_unfit p l
unfolding phase_at phase_unfit pick
other Closed l = elim (eqb (l % 8) 0) as (λ b. not (equal Closed (pick b Edge (Part (l % 8)))) ≡ true) [ true ↦ refl | false ↦ refl ]
other Edge l = elim (eqb (l % 8) 0) as (λ b. not (equal Edge (pick b Edge (Part (l % 8)))) ≡ not b) [ true ↦ refl | false ↦ refl ]
other (Part n) l = go (eqb (l % 8) 0) refl
  where
    go : (b : Bool) → eqb (l % 8) 0 ≡ b → not (equal (Part n) (pick b Edge (Part (l % 8)))) ≡ pick (eqb n 0) true (not (eqb (l % 8) n))
    go true h = grind (arith, nat_tests)
    go false h = grind (arith, nat_tests)

pub returns : goal.returns
returns c = c.ne.ensures ∙ ap (λ (q : Phase). not (equal c.args.self.phase q)) c.phase_at.ensures ∙ other c.args.self.phase c.args.self.total
