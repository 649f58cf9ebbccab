-- What is left to write gives the whole. Assumes nothing.
use Rattle.columns.specs.Column.{column}
use Rattle.listing_lines.specs.PutLine.{cells_from}
use Rattle.text.specs.PiecesLaws.{Putting}
use Rattle.listing_lines.proofs.put_cells.Given as goal

abbrev pub invariant-loop-i : goal.invariant-loop-i
invariant-loop-i l = Putting (λ i. column l.w (cells_from l.table l.from i)) l.initial.out l.at l.count l.out l.p l.i
