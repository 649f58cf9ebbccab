-- `names::part_width` meets its contract: the tests are those of `width_of`. Assumes nothing.
use Rattle.std.proofs.Common.{arith}
use Rattle.std.proofs.lemmas.Grind.{common_steps}
use Rattle.names.specs.Scan.{width_of}
use Rattle.names.proofs.part_width.Goals as goal

pub returns-then-is_umlaut : goal.returns-then-is_umlaut
unfolding width_of
returns-then-is_umlaut c = grind (arith, common_steps)

pub returns-then-a-eq195 : goal.returns-then-a-eq195
unfolding width_of
returns-then-a-eq195 c = grind (arith, common_steps)

pub returns-then-a-lt33 : goal.returns-then-a-lt33
unfolding width_of
returns-then-a-lt33 c = grind (arith, common_steps)

pub returns-then-a-gt126 : goal.returns-then-a-gt126
unfolding width_of
returns-then-a-gt126 c = grind (arith, common_steps)

pub returns-then-is_decomposed : goal.returns-then-is_decomposed
unfolding width_of
returns-then-is_decomposed c = grind (arith, common_steps)

pub returns : goal.returns
unfolding width_of
returns c = grind (arith, common_steps)
