-- Every cell of the next table is below the count, so it fits. Assumes nothing.
use Prim.Native.Nat.{◌+◌, ◌*◌}
use mathlib.Core.Path.{refl}
use native.Mathlib.Omega.{arith}
use Rattle.passes.proofs.next.Goals as goal

pub overflow_cast-result : goal.overflow_cast-result
overflow_cast-result c =
    let a = c.args in
    omega (arith, c.requires.1 (8 * a.at + a.letter))

pub returns : goal.returns
returns c =
    let a = c.args in
    (refl, c.requires.1 (8 * a.at + a.letter))
