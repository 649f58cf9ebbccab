-- Each edition has its question. Assumes nothing.
use mathlib.Core.Path.{sym, subst}
use lib.Dec.{eqb}
use Rattle.gate.specs.Gate.{Decides}
use Rattle.automaton.specs.Automaton.{MarkFits}
use Rattle.automaton.specs.QuestionLaws.{decides-zero, decides-within}
use Rattle.automaton.specs.declared.Edition.{Edition}
use Rattle.automaton.proofs.mark_fits.Goals as goal

pub returns-in-StateBased : goal.returns-in-StateBased
returns-in-StateBased c =
    let a = c.args in
    subst (λ (e : Edition). Decides (eqb a.marks 0) (MarkFits e a.successors a.marks)) (sym c.in-StateBased.is) (decides-zero a.marks)

pub returns-in-TransitionBased : goal.returns-in-TransitionBased
returns-in-TransitionBased c =
    let a = c.args in
    subst (λ (e : Edition). Decides c.within.result (MarkFits e a.successors a.marks)) (sym c.in-TransitionBased.is)
    (rw c.within.ensures (decides-within a.marks a.successors))
