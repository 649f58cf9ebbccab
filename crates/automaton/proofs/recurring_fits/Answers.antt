-- Each edition has its question. Assumes nothing.
use mathlib.Core.Path.{sym, subst}
use lib.Dec.{eqb}
use Rattle.gate.specs.Gate.{Decides}
use Rattle.automaton.specs.Automaton.{RecurringFits}
use Rattle.automaton.specs.QuestionLaws.{decides-zero}
use Rattle.automaton.specs.declared.Edition.{Edition}
use Rattle.automaton.proofs.recurring_fits.Goals as goal

pub returns-in-StateBased : goal.returns-in-StateBased
returns-in-StateBased c =
    let a = c.args.a in
    subst (λ (e : Edition). Decides c.states_fit.result (RecurringFits e a.n a.recurring)) (sym c.in-StateBased.is) c.states_fit.ensures

pub returns-in-TransitionBased : goal.returns-in-TransitionBased
returns-in-TransitionBased c =
    let a = c.args.a in
    subst (λ (e : Edition). Decides (eqb a.recurring 0) (RecurringFits e a.n a.recurring)) (sym c.in-TransitionBased.is) (decides-zero a.recurring)
