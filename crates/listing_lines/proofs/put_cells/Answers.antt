-- What is left to write gives the whole. Assumes nothing.
use Prim.Native.Nat.{ℕ}
use mathlib.Core.Path.{◌≡◌}
use mathlib.Core.List.{List}
use lib.ListN.{length}
use Rattle.columns.specs.Column.{column}
use Rattle.columns.specs.ColumnLaws.{column-length}
use Rattle.listing_lines.specs.PutLine.{cells_from}
use Rattle.text.specs.PiecesLaws.{put-none, put-room, put-more, put_all}
use Rattle.listing_lines.specs.PutLineLaws.{columns-length}
use Rattle.listing_lines.proofs.put_cells.Goals as goal
use Rattle.listing_lines.proofs.put_cells.Goals.{Start}

-- the columns, each w wide
abbrev cells : Start → ℕ → List ℕ
cells c i = column c.args.w (cells_from c.args.table.now c.args.from i)

wide : (c : Start) (i : ℕ) → length (cells c i) ≡ c.args.w
wide c i = column-length c.args.w (cells_from c.args.table.now c.args.from i)

pub loop-i-init : goal.loop-i-init
loop-i-init c =
    put-none (rw (columns-length c.args.w (cells_from c.args.table.now c.args.from) c.args.count) c.requires.bytes)

pub put_column-requires : goal.put_column-requires
put_column-requires c =
    let h = c.loop-i in
    (c.requires.wide, rw (wide (goal.at.put_column-requires c).Start h.i) at (put-room h.invariant c.loop-i-test.true))

pub loop-i-preserved : goal.loop-i-preserved
loop-i-preserved c =
    let h = c.loop-i in
    put-more h.invariant c.loop-i-test.true c.put_column.ensures (rw (wide (goal.at.loop-i-preserved c).Start h.i))

pub returns : goal.returns
returns c = put_all c.loop-i.invariant c.loop-i-test.false
