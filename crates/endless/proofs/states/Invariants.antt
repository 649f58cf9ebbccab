-- The invariant: nothing that begins an endless path has been taken away, and the states below q stay. A state that does not stay makes the
-- set a smaller number. Assumes nothing.
use Prim.Native.Nat.{◌+◌, ◌-◌, ◌*◌, ◌≤◌}
use Rattle.automaton.specs.Graph.{graph}
use Rattle.endless.specs.Closed.{Narrowed}
use Rattle.endless.proofs.states.Given as goal

abbrev pub invariant-loop-q : goal.invariant-loop-q
invariant-loop-q l = (l.q ≤ l.g.n) × Narrowed (graph l.g l.table) l.set l.q

abbrev pub decreases-loop-q : goal.decreases-loop-q
decreases-loop-q l = 17 * l.set + (16 - l.q)
