-- The pieces, written one behind the other, are the line: `line-put`. Assumes nothing.
use mathlib.Core.Path.{refl}
use lib.ListN.{replicate}
use Rattle.report.specs.ReportLaws.{line-put}
use Rattle.report.proofs.line.Goals as goal

pub returns : goal.returns
returns c =
    rw (c.put_column-2.ensures, c.put_column.ensures, c.put_bytes.ensures) (line-put (replicate 12 0) c.args.word.now c.args.a c.args.b refl c.requires)
