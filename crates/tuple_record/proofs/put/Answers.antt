-- A row copied over a part as long is the row stored there. Assumes nothing.
use Rattle.std.proofs.Common.{arith}
use Rattle.lists.specs.StoreLaws.{part-over}
use Rattle.tuple_record.proofs.put.Goals as goal

pub returns : goal.returns
returns c =
    rw c.copy_from_slice.ensures.after (part-over c.args.table.now c.args.row.now c.args.at _ (omega arith) (omega arith))
