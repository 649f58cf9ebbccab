-- The invariant: the pair joins on no letter below l. Assumes nothing.
use Rattle.pair_search.specs.Search.{NoneBelow}
use Rattle.pair_search.proofs.joining.Given as goal

abbrev pub invariant-loop-l : goal.invariant-loop-l
invariant-loop-l l = NoneBelow l.table l.counts l.e l.l
