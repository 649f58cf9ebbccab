-- The loop's invariant: the least of the cells before i. Assumes nothing.
use lib.ListN.{get_or}
use Rattle.passes.specs.Passes.{LeastOf}
use Rattle.passes.proofs.least_of.Given as goal

abbrev pub invariant-loop-i : goal.invariant-loop-i
invariant-loop-i l = LeastOf (λ j. get_or l.cells j 0) l.first l.i l.least
