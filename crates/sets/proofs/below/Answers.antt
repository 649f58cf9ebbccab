-- All sixteen numbers, moved down by 16 - n. Assumes nothing.
use Rattle.sets.specs.OrderLaws.{below-members}
use Rattle.sets.proofs.below.Goals as goal

pub returns : goal.returns
returns c = below-members c.args.n c.requires.1
