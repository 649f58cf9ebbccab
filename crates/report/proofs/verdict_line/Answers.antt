-- The word goes by the answer. Assumes nothing.
use Rattle.report.proofs.verdict_line.Goals as goal

pub returns-then-yes : goal.returns-then-yes
returns-then-yes c = rw c.if-yes.true c.line.ensures

pub returns : goal.returns
returns c = rw c.if-yes.false c.line-2.ensures
