-- What the two calls ensure. Assumes nothing.
use mathlib.Core.Path.{ap, ◌∙◌}
use Rattle.sets.specs.Sets.{union_of}
use Rattle.sets.proofs.insert.Goals as goal

pub returns : goal.returns
returns c = c.union.ensures ∙ ap (union_of _) c.single.ensures
