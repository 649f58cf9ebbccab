-- Where the first test holds the result is the second; else it is false. Assumes nothing.
use borrow.Author.Tests.{le-leb, lt-leb}
use Rattle.columns.proofs.is_between.Goals as goal

pub returns-then-least-v : goal.returns-then-least-v
returns-then-least-v c = simp (le-leb _ _ c.if-least-v.true)

pub returns-else-least-v : goal.returns-else-least-v
returns-else-least-v c = simp (lt-leb _ _ c.if-least-v.false)
