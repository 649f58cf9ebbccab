-- The cells passed are the same: `SameUpTo`. Assumes nothing.
use Rattle.tuple_record.specs.Record.{row_cells}
use Rattle.lists.specs.CellsLaws.{SameUpTo}
use Rattle.row_index.proofs.same.Given as goal

abbrev pub invariant-loop-i : goal.invariant-loop-i
invariant-loop-i l = SameUpTo l.table l.at row_cells l.row l.i
