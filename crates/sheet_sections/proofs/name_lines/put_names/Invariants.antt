-- `sheet_sections::name_lines::put_names` meets its contract: what is left to write gives the whole. Assumes nothing.
use Rattle.text.specs.PiecesLaws.{Putting}
use Rattle.sheet_sections.specs.RowNamesLaws.{row_text}
use Rattle.sheet_sections.proofs.name_lines.put_names.Given as goal

abbrev pub invariant-loop-l : goal.invariant-loop-l
invariant-loop-l l = Putting (row_text l.rows) l.initial.out l.start l.k l.out l.at l.l
