-- `sheet_lines::name_length` meets its contract. The loop's invariant: what is passed and what is left of the row up to its first zero
-- make the whole name. Assumes nothing.
use Prim.Native.Nat.{◌+◌}
use mathlib.Core.Path.{◌≡◌}
use lib.ListN.{length}
use Rattle.sheet_lines.specs.RowName.{row_name}
use Rattle.sheet_lines.specs.RowNameLaws.{rest_of}
use Rattle.sheet_lines.proofs.name_length.Given as goal

abbrev pub invariant-loop-i : goal.invariant-loop-i
invariant-loop-i l = l.i + length (rest_of l.rows l.l l.i) ≡ length (row_name l.rows l.l)
