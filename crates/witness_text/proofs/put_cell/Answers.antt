-- A space, and the number behind it. Assumes nothing.
use native.Mathlib.Omega.{arith}
use Rattle.witness_text.specs.PutLaws.{spaced-length, cell-written}
use Rattle.witness_text.proofs.put_cell.Goals as goal

pub put_bytes-requires : goal.put_bytes-requires
put_bytes-requires c =
    let v = c.args.v in
    omega (arith, spaced-length v c.digits-w.result c.digits-w.ensures.0)

pub put_column-requires : goal.put_column-requires
put_column-requires c =
    let v = c.args.v in
    (omega arith, omega (arith, spaced-length v c.digits-w.result c.digits-w.ensures.0))

pub returns : goal.returns
returns c =
    let v = c.args.v in
    cell-written v c.digits-w.result c.digits-w.ensures.0 c.put_bytes.ensures c.put_column.ensures
