-- The operator is the definition. Assumes nothing.
use mathlib.Core.Path.{refl}
use Rattle.sets.specs.Sets.{union_of}
use Rattle.sets.proofs.union.Goals as goal

pub returns : goal.returns
unfolding union_of
returns c = refl
