-- The parts of the line follow one another. Assumes nothing.
use Prim.Native.Nat.{◌+◌}
use mathlib.Core.Path.{sym}
use native.Mathlib.Omega.{arith}
use Rattle.tuple_record.specs.Record.{set_cells, record_start}
use Rattle.listing_lines.specs.PutLineLaws.{tuple-put}
use Rattle.listing_lines.proofs.put_tuple.Goals as goal

pub overflow_cast-tuples : goal.overflow_cast-tuples
overflow_cast-tuples c = omega (arith, c.type_inv.tuples (record_start c.args.t + set_cells))

pub returns : goal.returns
returns c =
    let a = c.args in
    rw (c.put_bytes-2.ensures, c.put_cells-2.ensures, c.put_cells.ensures, c.put_column-2.ensures, c.put_column.ensures, c.put_bytes.ensures)
    (sym (tuple-put a.out.now a.at a.n a.k a.tuples.now a.nexts.now a.t))
