-- `found` holds the successors of the members passed; from the first 2^q above the set on there is none left. Assumes nothing.
use mathlib.Core.Path.{◌≡◌}
use Rattle.automaton.specs.Successors.{successors_below}
use Rattle.automaton.proofs.successors_of.Given as goal

abbrev pub invariant-loop-q : goal.invariant-loop-q
invariant-loop-q l = l.found ≡ successors_below l.table l.letter l.q l.set
