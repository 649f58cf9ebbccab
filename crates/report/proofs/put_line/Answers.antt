-- The line is written at the start, and what lies behind it cleared. Assumes nothing.
use mathlib.Core.Path.{refl}
use Rattle.gate.specs.GateLaws.{text-lent}
use Rattle.report.proofs.put_line.Goals as goal

pub returns : goal.returns
returns c =
    (refl, text-lent c.args.line.now c.args.out.now c.put_bytes.ensures refl c.requires c.clear_bytes.ensures)
