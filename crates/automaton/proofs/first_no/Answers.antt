-- The questions are asked in the order of the definition. Assumes nothing.
use mathlib.Core.Path.{refl}
use Rattle.automaton.specs.QuestionLaws.{same_graph}
use Rattle.automaton.specs.Automaton.{FirstNo}
use Rattle.automaton.proofs.first_no.Goals as goal
use Rattle.automaton.proofs.first_no.Goals.{then-not-states_fit-via-then-not-states_fit, then-not-states_fit-via-else-not-states_fit+then-not-recurring_fits, then-not-cells_fit-via-then-not-cells_fit, then-not-cells_fit-via-else-not-cells_fit+then-not-marks_fit}

pub returns-then-not-in_range : goal.returns-then-not-in_range
returns-then-not-in_range c = FirstNo.range (c.if-not-in_range.ensures.1 refl)

pub returns-then-not-states_fit : goal.returns-then-not-states_fit
returns-then-not-states_fit c =
    FirstNo.states (c.if-not-in_range.ensures.0 refl)
    (elim c.then-not-states_fit.branch [
      | then-not-states_fit-via-then-not-states_fit w ↦ λ f. w.if-not-states_fit.ensures.1 refl f.0
      | then-not-states_fit-via-else-not-states_fit+then-not-recurring_fits w ↦ λ f. w.if-not-recurring_fits.ensures.1 refl f.1
    ])

pub returns-then-not-cells_fit : goal.returns-then-not-cells_fit
returns-then-not-cells_fit c =
    let a = c.args in
    let same = same_graph a.a a.table.now a.marks.now c.graph_of.ensures in
    FirstNo.cells (c.if-not-in_range.ensures.0 refl) (c.if-not-states_fit.ensures.0 refl, c.if-not-recurring_fits.ensures.0 refl)
    (elim c.then-not-cells_fit.branch [
      | then-not-cells_fit-via-then-not-cells_fit w ↦ λ f. w.if-not-cells_fit.ensures.1 refl (rw same f.0)
      | then-not-cells_fit-via-else-not-cells_fit+then-not-marks_fit w ↦ λ f. w.if-not-marks_fit.ensures.1 refl f.1
    ])
