-- Where the first number is in its range the result is that of the second; else it is false. Assumes nothing.
use mathlib.Core.Path.{sym}
use Rattle.columns.proofs.are_between.Goals as goal

pub returns-then-is_between : goal.returns-then-is_between
returns-then-is_between c =
    simp (sym c.is_between.ensures, c.if-is_between.true, sym c.is_between-then-is_between.ensures)

pub returns-else-is_between : goal.returns-else-is_between
returns-else-is_between c = simp (sym c.is_between.ensures, c.if-is_between.false)
