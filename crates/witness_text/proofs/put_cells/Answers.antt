-- What is left to write gives the whole; a cell of the first `count` is the table's. Assumes nothing.
use Rattle.std.proofs.Common.{◌≡◌, ◌<◌, ◌≤◌, take, get_or, get_or-take, length-take-le, arith}
use Rattle.text.specs.PiecesLaws.{put-room, put-more, put_all, put-end}
use Rattle.witness_text.proofs.put_cells.Goals as goal
use Rattle.witness_text.proofs.put_cells.Goals.{In-loop-cell}

below : (c : In-loop-cell) → c.loop-cell.cell-index < c.args.count
below c = omega (arith, length-take-le c.args.count c.args.table.now c.requires.cells)

cell : (c : In-loop-cell) → get_or (take c.args.count c.args.table.now) c.loop-cell.cell-index 0 ≡ get_or c.args.table.now c.loop-cell.cell-index 0
cell c = get_or-take c.args.count c.args.table.now c.loop-cell.cell-index 0 (below c)

pub put_cell-at-requires : goal.put_cell-at-requires
put_cell-at-requires c =
    let here = (goal.at.put_cell-at-requires c).In-loop-cell in
    rw (cell here) (put-room c.loop-cell.invariant (below here))

pub loop-cell-preserved : goal.loop-cell-preserved
loop-cell-preserved c =
    let here = (goal.at.loop-cell-preserved c).In-loop-cell in
    let put = c.put_cell-at.ensures in
    put-more c.loop-cell.invariant (below here) (rw (cell here) at put.stored) (rw (cell here) at put.behind-it)

pub returns : goal.returns
returns c =
    let h = c.loop-cell.invariant in
    let l : c.args.count ≤ c.loop-cell.cell-index = omega (arith, length-take-le c.args.count c.args.table.now c.requires.cells) in
    record { stored = put_all h l; behind-it = put-end h l }
