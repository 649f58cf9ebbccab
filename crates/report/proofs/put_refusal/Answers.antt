-- The line that is put is that of the refusal, and zeros stand behind it. Assumes nothing.
use mathlib.Core.Path.{sym}
use native.Mathlib.Omega.{arith}
use Rattle.report.specs.Report.{line_of}
use Rattle.report.specs.ReportLaws.{refusal-length}
use Rattle.report.specs.OutputLaws.{front-lent}
use Rattle.report.proofs.put_refusal.Goals as goal

pub returns : goal.returns
returns c =
    let r = c.args.r in
    let e = refusal-length r.number r.line in
    (sym e, front-lent (line_of r) c.args.out.now c.requires.1 (omega arith) (rw c.refusal_line-line.ensures at c.put_bytes.ensures))
