-- By the test of the set. Assumes nothing.
use borrow.Author.Tests.{eq-eqb, ne_eqb}
use Rattle.tuple.specs.Step.{is_marked}
use Rattle.tuple.proofs.is_marked.Goals as goal

pub returns-then-x-ne0 : goal.returns-then-x-ne0
unfolding is_marked
returns-then-x-ne0 c = simp (ne_eqb _ _ c.if-x-ne0.true) c.within.ensures

pub returns-else-x-ne0 : goal.returns-else-x-ne0
unfolding is_marked
returns-else-x-ne0 c = simp (eq-eqb _ _ c.if-x-ne0.false)
