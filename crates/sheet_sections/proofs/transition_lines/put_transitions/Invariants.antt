-- `sheet_sections::transition_lines::put_transitions` meets its contract. The loop's invariant: storing the lines that are left gives all lines stored.
-- Assumes nothing.
use Prim.Native.Nat.{◌+◌, ◌-◌}
use mathlib.Core.Path.{◌≡◌}
use lib.ListN.{length}
use lib.Seq.{sets}
use Rattle.format.specs.Format.{transition_lines}
use Rattle.format.specs.Written.{most_transitions}
use Rattle.sheet_sections.specs.Places.{transitions_from, Stop}
use Rattle.sheet_sections.proofs.transition_lines.put_transitions.Given as goal

abbrev pub invariant-loop-i : goal.invariant-loop-i
invariant-loop-i l =
    Stop l.table l.i × (length l.out ≡ length l.initial.out)
    × (l.at + length (transition_lines l.edition (transitions_from l.table l.marks l.i)) ≡ l.start + length (transition_lines l.edition (transitions_from l.table l.marks 0)))
    × (sets l.out l.at (transition_lines l.edition (transitions_from l.table l.marks l.i)) ≡ sets l.initial.out l.start (transition_lines l.edition (transitions_from l.table l.marks 0)))

abbrev pub decreases-loop-i : goal.decreases-loop-i
decreases-loop-i l = most_transitions - l.i
