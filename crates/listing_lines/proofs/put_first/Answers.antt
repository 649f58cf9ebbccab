-- The parts of the line follow one another. Assumes nothing.
use mathlib.Core.Path.{sym}
use Rattle.listing_lines.specs.PutLineLaws.{first-put}
use Rattle.listing_lines.proofs.put_first.Goals as goal

pub returns : goal.returns
returns c =
    let a = c.args in
    rw (c.put_bytes-2.ensures, c.put_column-3.ensures, c.put_column-2.ensures, c.put_column.ensures, c.put_bytes.ensures)
    (sym (first-put a.out.now a.n a.k a.count))
