-- The invariant is Search: the pairs before head are done, and none of them joins. The measure: there are at most 256 pairs. Assumes nothing.
use Prim.Native.Nat.{◌-◌}
use Rattle.automaton.specs.Graph.{graph}
use Rattle.pair_search.specs.Search.{Search}
use Rattle.pair_search.proofs.explore.Given as goal

abbrev pub invariant-loop-head : goal.invariant-loop-head
invariant-loop-head l = Search (graph l.g l.table) l.counts l.queue l.count l.head

abbrev pub decreases-loop-head : goal.decreases-loop-head
decreases-loop-head l = 256 - l.head
