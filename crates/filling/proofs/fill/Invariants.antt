-- The tables hold what is found before each step, and behind the last step it is all. Assumes nothing.
use Prim.Native.Nat.{◌-◌, ◌*◌}
use mathlib.Core.Path.{◌≡◌}
use lib.ListN.{length}
use Rattle.automaton.specs.Automaton.{automaton}
use Rattle.expanding.specs.Expand.{Filled}
use Rattle.filling.proofs.fill.Given as goal

abbrev pub invariant-loop-c : goal.invariant-loop-c
invariant-loop-c l =
    Filled (automaton l.a l.table l.marks) l.room l.c l.m l.tuples l.nexts l.head l.link × (length l.tuples ≡ length l.initial.tuples) × (length l.nexts ≡ length l.initial.nexts)

abbrev pub decreases-loop-c : goal.decreases-loop-c
decreases-loop-c l = 8 * l.room - l.c
