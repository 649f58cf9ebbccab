-- `found` holds the successors of the members passed; where the next power of 2 is above the set none is left. Assumes nothing.
use Prim.Native.Nat.{◌-◌, ◌^◌, ◌≤◌}
use mathlib.Core.Path.{◌≡◌}
use Rattle.automaton.specs.Successors.{successors_below}
use Rattle.automaton.proofs.marked_of.Given as goal

abbrev pub invariant-loop-power : goal.invariant-loop-power
invariant-loop-power l =
    (l.q ≤ 16) × (l.power ≡ 2 ^ l.q) × (l.found ≡ successors_below l.marks l.letter l.q l.set) × (l.last ≡ l.set)

abbrev pub decreases-loop-power : goal.decreases-loop-power
decreases-loop-power l = 16 - l.q
