-- `sheet_lines::put_row` meets its contract: the stretch that is handed on is the name in the row. Assumes nothing.
use Rattle.sheet_lines.specs.RowNameLaws.{row-name-is}
use Rattle.sheet_lines.proofs.put_row.Goals as goal

pub returns : goal.returns
returns c =
    let a = c.args in
    rw (row-name-is a.rows.now a.l c.name_length.result c.name_length.ensures.0) at c.put_name.ensures
