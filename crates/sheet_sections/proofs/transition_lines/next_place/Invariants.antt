-- `sheet_sections::transition_lines::next_place` meets its contract. The loop's invariant: no transition stands at the places passed. Assumes nothing.
use Prim.Native.Nat.{ℕ, ◌≤◌, ◌-◌}
use mathlib.Core.Path.{◌≡◌}
use mathlib.Core.List.{List}
use Rattle.format.specs.Written.{most_transitions}
use Rattle.sheet_sections.specs.Places.{transitions_from}
use Rattle.sheet_sections.proofs.transition_lines.next_place.Given as goal

abbrev pub invariant-loop-i : goal.invariant-loop-i
invariant-loop-i l =
    (l.start ≤ l.i) × (l.i ≤ most_transitions) × ((marks : List ℕ) → transitions_from l.table marks l.start ≡ transitions_from l.table marks l.i)

abbrev pub decreases-loop-i : goal.decreases-loop-i
decreases-loop-i l = most_transitions - l.i
