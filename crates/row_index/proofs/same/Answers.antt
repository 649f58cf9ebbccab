-- The cells passed are the same: `SameUpTo`. Assumes nothing.
use native.Mathlib.Omega.{arith}
use Rattle.gate.specs.GateLaws.{decides-yes, decides-no}
use Rattle.tuple_record.specs.Record.{row_cells, record_start}
use Rattle.lists.specs.CellsLaws.{same_none, same_more, same-all, same-cell}
use Rattle.row_index.proofs.same.Goals as goal

pub loop-i-init : goal.loop-i-init
loop-i-init c = same_none _ _ _ _

pub returns-then-table-at : goal.returns-then-table-at
returns-then-table-at c =
    let i = c.loop-i.i in
    let a = c.args in
    decides-no (λ e. c.if-table-at.true (same-cell a.table.now (record_start a.t) row_cells a.row.now e i (omega arith)))

pub loop-i-preserved : goal.loop-i-preserved
loop-i-preserved c = same_more c.loop-i.invariant (omega arith) c.if-table-at.false

pub returns : goal.returns
returns c = decides-yes (same-all c.loop-i.invariant (omega arith) (omega arith) (omega arith))
