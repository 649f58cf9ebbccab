-- The tests are those of the definition. Assumes nothing.
use mathlib.Core.Path.{◌≡◌, sym, ◌∙◌}
use lib.ListN.{get_or}
use borrow.Author.Rules.{rules}
use native.Mathlib.Omega.{arith}
use Rattle.automaton.specs.Graph.{graph}
use Rattle.automaton.specs.QuestionLaws.{empty-cell-fits, decides-zero}
use Rattle.automaton.proofs.cell_fits.Goals as goal
use Rattle.automaton.proofs.cell_fits.Goals.{else-i-g-via-then-i-g+else-i-g-2, else-i-g-via-else-i-g}

pub returns-then-i-g-2 : goal.returns-then-i-g-2
returns-then-i-g-2 c =
    let a = c.args in
    let e : c.unwrap_or-x.result ≡ get_or a.table.now a.i 0 = search rules in
    let w = rw e at c.states_fit.ensures in
    search rules

pub returns : goal.returns
returns c =
    let a = c.args in
    let e : c.unwrap_or-x.result ≡ get_or a.table.now a.i 0 = search rules in
    let d = decides-zero c.unwrap_or-x.result in (
      λ t. empty-cell-fits (graph a.g a.table.now) a.i (sym e ∙ d.0 t),
      λ t f.
          d.1 t
          (e
          ∙ f.empty
          (elim c.else-i-g.branch [
            | else-i-g-via-then-i-g+else-i-g-2 w ↦ λ x y. omega arith
            | else-i-g-via-else-i-g w ↦ λ x y. omega arith
          ])),
    )
