-- Each cell passed fits; past the end of the marks all cells are empty. Assumes nothing.
use native.Mathlib.Omega.{arith}
use Rattle.gate.specs.GateLaws.{decides-yes}
use Rattle.automaton.specs.Automaton.{automaton}
use Rattle.automaton.specs.QuestionLaws.{marks-of-table}
use Rattle.automaton.proofs.marks_fit.Goals as goal

pub returns : goal.returns
returns c =
    let a = c.args in
    decides-yes (marks-of-table (automaton a.a a.table.now a.marks.now) (λ j h. c.loop-i.invariant j (omega arith)))
