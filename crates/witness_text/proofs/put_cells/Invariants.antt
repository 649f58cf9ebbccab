-- What is left to write gives the whole. Assumes nothing.
use lib.ListN.{get_or}
use Rattle.text.specs.PiecesLaws.{Putting}
use Rattle.witness_text.specs.WitnessText.{spaced}
use Rattle.witness_text.proofs.put_cells.Given as goal

abbrev pub invariant-loop-cell : goal.invariant-loop-cell
invariant-loop-cell l = Putting (λ i. spaced (get_or l.table i 0)) l.initial.out l.start l.count l.out l.at l.cell-index
