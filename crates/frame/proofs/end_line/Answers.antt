-- `frame::end_line` meets its contract: the tests are those of `end_at`. Assumes nothing.
use Rattle.std.proofs.Common.{arith}
use Rattle.std.proofs.lemmas.Grind.{common_steps}
use Rattle.frame.specs.Phase.{end_at}
use Rattle.frame.proofs.end_line.Goals as goal

pub returns-then-not-starts_at : goal.returns-then-not-starts_at
unfolding end_at
returns-then-not-starts_at c = grind (arith, common_steps)

pub returns-then-s-at : goal.returns-then-s-at
unfolding end_at
returns-then-s-at c = grind (arith, common_steps)

pub returns : goal.returns
unfolding end_at
returns c = grind (arith, common_steps)
