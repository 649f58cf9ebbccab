-- The way back is followed, and each step leads down: `Followed`. Assumes nothing.
use Rattle.ways.specs.SpellLaws.{Followed}
use Rattle.ways.proofs.depth.Given as goal

abbrev pub invariant-loop-at : goal.invariant-loop-at
invariant-loop-at l = Followed l.tuples l.count l.t l.d l.at

abbrev pub decreases-loop-at : goal.decreases-loop-at
decreases-loop-at l = l.at
