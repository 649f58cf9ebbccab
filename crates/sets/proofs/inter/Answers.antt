-- The operator is the definition. Assumes nothing.
use mathlib.Core.Path.{refl}
use Rattle.sets.specs.Sets.{inter_of}
use Rattle.sets.proofs.inter.Goals as goal

pub returns : goal.returns
unfolding inter_of
returns c = refl
