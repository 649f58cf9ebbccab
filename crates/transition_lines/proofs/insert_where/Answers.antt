-- A bit is 0 or 1. Assumes nothing.
use mathlib.Core.Path.{◌≡◌, refl}
use native.Mathlib.Omega.{arith}
use Rattle.transition_lines.proofs.insert_where.Goals as goal

pub returns-then-bit-eq1 : goal.returns-then-bit-eq1
returns-then-bit-eq1 c = rw (c.if-bit-eq1.true, c.insert.ensures) refl

pub returns-else-bit-eq1 : goal.returns-else-bit-eq1
returns-else-bit-eq1 c =
    let zero : c.args.bit ≡ 0 = omega (arith, c.if-bit-eq1.false) in
    rw zero refl
