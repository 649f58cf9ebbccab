-- `sheet_lines::put_name` meets its contract: the parts are stored one behind the other. Assumes nothing.
use native.Mathlib.Omega.{arith}
use lib.ListN.{length-set}
use Rattle.sheet_lines.specs.LineLaws.{name-stored}
use Rattle.sheet_lines.proofs.put_name.Goals as goal

pub put_column-requires : goal.put_column-requires
put_column-requires c = simp length-set (omega arith)

pub bounds-out-at-2 : goal.bounds-out-at-2
bounds-out-at-2 c = omega (arith, simp length-set at c.put_column.auto.out)

pub put_bytes-requires : goal.put_bytes-requires
put_bytes-requires c = simp length-set (omega (arith, simp length-set at c.put_column.auto.out))

pub bounds-out-behind : goal.bounds-out-behind
bounds-out-behind c =
    omega (arith, simp length-set at c.put_bytes.auto.out, simp length-set at c.put_column.auto.out)

pub shape_of-out : goal.shape_of-out
shape_of-out c =
    simp length-set (omega (arith, simp length-set at c.put_bytes.auto.out, simp length-set at c.put_column.auto.out))

pub returns : goal.returns
returns c =
    let a = c.args in
    (omega arith, rw (c.put_bytes.ensures, c.put_column.ensures) (name-stored a.out.now a.at a.letter a.name.now))
