-- The invariant: the pairs of p and the members below q are in the queue. Assumes nothing.
use Rattle.queue.specs.Queue.{Below, Longer}
use Rattle.queue.proofs.add_row.Given as goal

abbrev pub invariant-loop-q : goal.invariant-loop-q
invariant-loop-q l = Longer l.initial.queue l.count l.depth l.p (Below l.set l.q) l.origin l.queue l.reached
