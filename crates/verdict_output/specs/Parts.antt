-- What the parts of `verdict` answer.
use Rattle.std.specs.Prelude.{ℕ, List, Err, Ok, Result}
use Rattle.gate.specs.declared.Refusal.{Refusal}
use Rattle.passes.specs.Passes.{is_yes}
use Rattle.passes.specs.declared.Verdict.{Verdict}
use Rattle.report.specs.Report.{line_of, verdict_line}

-- the line of a verdict
abbrev pub judged_line : Verdict → List ℕ
judged_line z = verdict_line (is_yes z.answer) z.least z.passes

-- the line of an outcome
abbrev pub outcome_line : Result Verdict Refusal → List ℕ
outcome_line (Err r) = line_of r
outcome_line (Ok z) = judged_line z
