-- The word, the cells and the LF follow one another. Assumes nothing.
use Prim.Native.Nat.{◌+◌}
use mathlib.Core.Path.{◌≡◌}
use mathlib.Core.List.{[], ◌∷◌}
use native.Mathlib.Omega.{arith}
use lib.ListN.{length}
use Rattle.text.specs.Bytes.{lf}
use Rattle.witness_text.specs.Put.{spaced_cells}
use Rattle.witness_text.specs.WitnessText.{cells_line}
use Rattle.witness_text.specs.PutLaws.{cells-line-length, written_one, written-append}
use Rattle.witness_text.proofs.put_cells_line.Goals as goal
use Rattle.witness_text.proofs.put_cells_line.Goals.{Start}

-- the parts of the line
size : (c : Start)
    → length (cells_line c.args.name.now c.args.table.now c.args.count) ≡ length c.args.name.now + (length (spaced_cells c.args.table.now c.args.count) + 1)
size c = cells-line-length c.args.name.now c.args.table.now c.args.count

pub put_bytes-requires : goal.put_bytes-requires
put_bytes-requires c = omega (arith, size (goal.at.put_bytes-requires c).Start)

pub put_cells-end-requires : goal.put_cells-end-requires
put_cells-end-requires c =
    record { cells = c.requires.cells; room = omega (arith, size (goal.at.put_cells-end-requires c).Start) }

pub put_bytes-requires-2 : goal.put_bytes-requires-2
put_bytes-requires-2 c =
    omega (arith, size (goal.at.put_bytes-requires-2 c).Start, c.put_cells-end.ensures.behind-it)

pub overflow_add-result : goal.overflow_add-result
overflow_add-result c =
    omega (arith, size (goal.at.overflow_add-result c).Start, c.put_cells-end.ensures.behind-it)

pub returns : goal.returns
unfolding cells_line
returns c =
    let name = c.args.name in
    written-append (written_one name.now c.put_bytes.ensures) (written-append c.put_cells-end.ensures (written_one (lf ∷ []) c.put_bytes-2.ensures))
