-- `sheet_sections::name_lines::names_length` meets its contract. The loop's invariant: what is counted and the lines that are left make all lines.
-- Assumes nothing.
use Prim.Native.Nat.{◌+◌, ◌-◌, ◌*◌, ◌≤◌}
use mathlib.Core.Path.{◌≡◌}
use lib.ListN.{length}
use Rattle.format.specs.Format.{name_lines}
use Rattle.sheet_sections.specs.RowNames.{row_names}
use Rattle.sheet_sections.proofs.name_lines.names_length.Given as goal

abbrev pub invariant-loop-l : goal.invariant-loop-l
invariant-loop-l l =
    (l.count ≤ 30 * l.l) × (l.count + length (name_lines l.l (row_names l.rows l.l (l.k - l.l))) ≡ length (name_lines 0 (row_names l.rows 0 l.k)))
