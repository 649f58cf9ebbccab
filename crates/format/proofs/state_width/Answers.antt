-- Each edition has its width. Assumes nothing.
use native.Mathlib.Omega.{arith}
use mathlib.Core.Path.{refl}
use Rattle.format.proofs.state_width.Goals as goal

pub returns-in-StateBased : goal.returns-in-StateBased
returns-in-StateBased c = rw c.in-StateBased.is (refl, omega arith)

pub returns-in-TransitionBased : goal.returns-in-TransitionBased
returns-in-TransitionBased c = rw c.in-TransitionBased.is (refl, omega arith)
