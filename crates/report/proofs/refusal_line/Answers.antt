-- The line has the refusal's number and its line. Assumes nothing.
use Rattle.report.proofs.refusal_line.Goals as goal

pub returns : goal.returns
returns c = c.line.ensures
