-- Document 01, "A whole listing": "Program `verdict` (room 1,024) reads a sheet and after its END a plan". What it prints.
use Rattle.std.specs.Prelude.{ℕ, ◌+◌, ◌≡◌, List, take, drop}
use Rattle.gate.specs.declared.Refusal.{Refusal}
use Rattle.format.specs.Format.{Sheet, most_sheet}
use Rattle.format.specs.Numbers.{numbers}
use Rattle.reading.specs.Read.{Accepted}
use Rattle.filling.specs.TrackerTables.{TrackerTables, Fitted}
use Rattle.tracker.specs.Build.{BuildTables}
use Rattle.plan_lines.specs.PlanLines.{most_plan}
use Rattle.passes.specs.Passes.{is_yes}
use Rattle.plan_verdict.specs.Verdict.{SizesFit, Refusing, Verdicts}
use Rattle.passes.specs.declared.Verdict.{Verdict}
use Rattle.report.specs.Report.{refusal_line, verdict_line}
use Rattle.sheet_end.specs.Split.{SheetEnds}
use Rattle.report.specs.Output.{program_room}

-- a line of a report
abbrev pub longest_verdict : ℕ
longest_verdict = 12

-- the most bytes that a sheet and a plan may have together: 45,056
abbrev pub most_input : ℕ
most_input = most_sheet + most_plan

-- for a sheet s and a plan p
pub data VerdictOn (s p text : List ℕ) : Type 0 where
  -- 2 to 14: "For a refusal either program prints `REF`, number (3), line (5)."
  refused : (before after : BuildTables) (r : Refusal) → Refusing s p program_room before after r → text ≡ refusal_line r.number r.line → VerdictOn s p text
  -- "`YES` or ` NO`, least colour (3), passes (5)"
  judged : SizesFit s p → (σ : Sheet) → Accepted s σ → (before after : TrackerTables) (count : ℕ) → Fitted (numbers σ) program_room before after count
      → (lead cycle : List ℕ) (z : Verdict) → Verdicts σ p lead cycle count z
      → text ≡ verdict_line (is_yes z.answer) z.least z.passes → VerdictOn s p text

-- WHAT `verdict` PRINTS for the input s: "There the sheet reaches to the first line that is just END (to the end of input if none)"
pub record VerdictOutput (s text : List ℕ) : Type 0 where
  pub end : ℕ
  pub split : SheetEnds s end
  pub on : VerdictOn (take end s) (drop end s) text
