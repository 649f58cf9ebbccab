-- The operator is the definition. Assumes nothing.
use mathlib.Core.Path.{refl}
use Rattle.sets.specs.Sets.{minus_of}
use Rattle.sets.proofs.minus.Goals as goal

pub returns : goal.returns
unfolding minus_of
returns c = refl
