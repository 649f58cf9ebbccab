-- The tables are long enough, and what judging answers has its line: `judgement-output`. Assumes nothing.
use Rattle.std.proofs.Common.{rules}
use Rattle.verdict_output.specs.VerdictLaws.{judgement-output}
use Rattle.verdict_output.proofs.judge_input.Goals as goal

pub returns : goal.returns
returns c = judgement-output c.sheet_end-e.result c.sheet_end-e.ensures.0 (search rules) c.verdict.ensures
