-- `superseding::superseding` meets its contract: a cell is a byte of the rows. Assumes nothing.
use Prim.Native.Nat.{◌+◌}
use mathlib.Core.Path.{sym}
use native.Mathlib.Omega.{arith}
use Rattle.superseding.specs.SupersedingLaws.{superseding-at}
use Rattle.superseding.proofs.superseding.Goals as goal

pub overflow_cast-result : goal.overflow_cast-result
overflow_cast-result c = omega (arith, c.shared_slice_known-1.given (216 + c.args.l))

pub returns : goal.returns
returns c =
    let a = c.args in
    (sym (superseding-at a.rows.now a.l (omega arith)), omega (arith, c.shared_slice_known-1.given (216 + a.l)))
