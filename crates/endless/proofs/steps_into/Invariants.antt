-- The invariant: on no letter below l is there a transition into the set. Assumes nothing.
use Prim.Native.Nat.{ℕ, ◌<◌}
use mathlib.Core.Path.{◌≡◌}
use Rattle.sets.specs.Sets.{inter_of}
use Rattle.automaton.specs.Graph.{successor_set}
use Rattle.endless.proofs.steps_into.Given as goal

abbrev pub invariant-loop-l : goal.invariant-loop-l
invariant-loop-l l = (m : ℕ) → m < l.l → inter_of (successor_set l.table l.q m) l.set ≡ 0
