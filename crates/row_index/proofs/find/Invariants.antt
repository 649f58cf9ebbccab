-- The walk along the chain of the digest passes no row that is looked for. Assumes nothing.
use Rattle.row_index.specs.IndexLaws.{ChainWalk}
use Rattle.row_index.proofs.find.Given as goal

abbrev pub invariant-loop-p : goal.invariant-loop-p
invariant-loop-p l = ChainWalk l.table l.m l.row l.h l.p

abbrev pub decreases-loop-p : goal.decreases-loop-p
decreases-loop-p l = l.p
