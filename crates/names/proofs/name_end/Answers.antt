-- `names::name_end` meets its contract: the tests are those of `name_end_at`, and an LF that is read stands within the file. Assumes nothing.
use Rattle.std.proofs.Common.{arith}
use Rattle.std.proofs.lemmas.Grind.{common_steps}
use Rattle.text.specs.WordLaws.{within}
use Rattle.names.specs.Scan.{name_end_at}
use Rattle.names.proofs.name_end.Goals as goal

pub returns-then-end-start : goal.returns-then-end-start
unfolding name_end_at
returns-then-end-start c = grind (arith, common_steps)

pub returns-then-end-start-2 : goal.returns-then-end-start-2
unfolding name_end_at
returns-then-end-start-2 c = grind (arith, common_steps)

pub returns-then-byte_at-ne10 : goal.returns-then-byte_at-ne10
unfolding name_end_at
returns-then-byte_at-ne10 c = grind (arith, common_steps)

pub returns : goal.returns
unfolding name_end_at
returns c = grind (arith, common_steps, within)
