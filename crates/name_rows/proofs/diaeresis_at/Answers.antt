-- `name_rows::diaeresis_at` meets its contract: the tests are those of `diaeresis_at`. Assumes nothing.
use borrow.Author.Tests.{lt-ltb, le-ltb}
use Rattle.name_rows.specs.Row.{diaeresis_at}
use Rattle.name_rows.proofs.diaeresis_at.Goals as goal

pub returns-then-end-i-lt3 : goal.returns-then-end-i-lt3
unfolding diaeresis_at
returns-then-end-i-lt3 c = simp (lt-ltb _ _ c.if-end-i-lt3.true)

pub returns : goal.returns
unfolding diaeresis_at
returns c = simp (le-ltb _ _ c.if-end-i-lt3.false) c.is_decomposed.ensures
