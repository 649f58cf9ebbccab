-- A letter is below 8, so it fits, by the requires. Assumes nothing.
use mathlib.Core.Path.{refl}
use native.Mathlib.Omega.{arith}
use Rattle.passes.proofs.letter.Goals as goal

pub overflow_cast-result : goal.overflow_cast-result
overflow_cast-result c = omega (arith, c.requires.1 c.args.i)

pub returns : goal.returns
returns c = (refl, c.requires.1 c.args.i)
