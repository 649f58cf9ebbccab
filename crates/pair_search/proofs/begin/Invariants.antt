-- The invariant: the pairs of initial states whose first state is below p are in the queue. Assumes nothing.
use Rattle.automaton.specs.Graph.{graph}
use Rattle.pair_search.specs.Search.{Started}
use Rattle.pair_search.proofs.begin.Given as goal

abbrev pub invariant-loop-p : goal.invariant-loop-p
invariant-loop-p l = Started (graph l.g l.table) l.queue l.count l.p
