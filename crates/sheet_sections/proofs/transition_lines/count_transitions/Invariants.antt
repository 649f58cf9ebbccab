-- `sheet_sections::transition_lines::count_transitions` meets its contract. The loop's invariant: what is counted and what is left make all transitions.
-- Assumes nothing.
use Prim.Native.Nat.{ℕ, ◌+◌, ◌-◌}
use mathlib.Core.Path.{◌≡◌}
use mathlib.Core.List.{List}
use lib.ListN.{length}
use Rattle.format.specs.Written.{most_transitions}
use Rattle.sheet_sections.specs.Places.{transitions_from, Stop}
use Rattle.sheet_sections.proofs.transition_lines.count_transitions.Given as goal

abbrev pub invariant-loop-i : goal.invariant-loop-i
invariant-loop-i l =
    Stop l.table l.i × ((marks : List ℕ) → l.count + length (transitions_from l.table marks l.i) ≡ length (transitions_from l.table marks 0))

abbrev pub decreases-loop-i : goal.decreases-loop-i
decreases-loop-i l = most_transitions - l.i
