-- The row, and behind it the way back: `record-written`. Assumes nothing.
use native.Mathlib.Omega.{arith}
use lib.ListN.{length-set}
use Rattle.tuple_record.specs.Record.{record_start}
use Rattle.tuple_record.specs.RecordLaws.{record-written}
use Rattle.tuple_record.proofs.store.Goals as goal

pub bounds-table-at-2 : goal.bounds-table-at-2
bounds-table-at-2 c = simp length-set (omega arith)

pub returns : goal.returns
returns c =
    let a = c.args in
    let p = c.requires in
    record {
      is = rw c.put.ensures (record-written a.table.now a.row.now a.way (record_start a.t) p.2);
      cells = p.2;
      long = p.1;
    }
