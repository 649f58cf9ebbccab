-- The invariant: what the pair steps to is in the queue, for the letters and states of the first j steps. Assumes nothing.
use Rattle.automaton.specs.Graph.{graph}
use Rattle.queue.specs.Queue.{one, other}
use Rattle.pair_search.specs.Search.{Grown, SuccessorsQueued}
use Rattle.pair_search.proofs.expand.Given as goal

abbrev pub invariant-loop-j : goal.invariant-loop-j
invariant-loop-j l =
    Grown (graph l.fn.g l.table) l.initial.queue l.count l.d l.queue l.reached × SuccessorsQueued (graph l.fn.g l.table) (one l.e) (other l.e) l.d l.queue l.reached l.j
