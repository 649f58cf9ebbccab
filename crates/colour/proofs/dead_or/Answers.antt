-- By the test of set 0. Assumes nothing.
use borrow.Author.Tests.{eq-eqb, ne_eqb}
use Rattle.colour.specs.Colour.{dead_or}
use Rattle.colour.proofs.dead_or.Goals as goal

pub returns-then-first-eq0 : goal.returns-then-first-eq0
unfolding dead_or
returns-then-first-eq0 c = simp (eq-eqb _ _ c.if-first-eq0.true)

pub returns-else-first-eq0 : goal.returns-else-first-eq0
unfolding dead_or
returns-else-first-eq0 c = simp (ne_eqb _ _ c.if-first-eq0.false)
