-- Each cell passed fits; past the end of the table all cells are empty. Assumes nothing.
use native.Mathlib.Omega.{arith}
use Rattle.automaton.specs.Graph.{graph}
use Rattle.gate.specs.GateLaws.{decides-yes}
use Rattle.automaton.specs.QuestionLaws.{cells-of-table}
use Rattle.automaton.proofs.cells_fit.Goals as goal

pub returns : goal.returns
returns c =
    let a = c.args in
    decides-yes (cells-of-table (graph a.g a.table.now) (λ j h. c.loop-i.invariant j (omega arith)))
