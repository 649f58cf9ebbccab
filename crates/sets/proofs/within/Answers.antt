-- A set lies within another if nothing is left of it without the other. Assumes nothing.
use Prim.Native.Nat.{ℕ}
use mathlib.Core.Path.{ap}
use lib.Dec.{eqb}
use Rattle.sets.specs.Sets.{is_within}
use Rattle.sets.proofs.within.Goals as goal

pub returns : goal.returns
unfolding is_within
returns c = ap (λ (z : ℕ). eqb z 0) c.minus.ensures
