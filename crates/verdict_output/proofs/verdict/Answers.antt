-- A short buffer is left as it is; in a long one stands the line of the outcome. Assumes nothing.
use Rattle.std.proofs.Common.{arith}
use Rattle.verdict_output.specs.VerdictLaws.{line-prints}
use Rattle.verdict_output.proofs.verdict.Goals as goal

pub returns-clause-prints : goal.returns-clause-prints
returns-clause-prints c =
    line-prints c.judge_input.result c.judge_input.ensures c.outcome_line-line.ensures (omega arith) c.put_line.ensures
