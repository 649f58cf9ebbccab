-- `columns::digit_byte` meets its contract: the cases of `digit_byte`, at a place that is not written as a successor. Assumes nothing.
use mathlib.Core.Path.{sym}
use Rattle.columns.specs.ColumnLaws.{first-place, blank, digit}
use Rattle.columns.proofs.digit_byte.Goals as goal

pub returns-then-i-eq0 : goal.returns-then-i-eq0
returns-then-i-eq0 c = sym (first-place _ _ c.if-i-eq0.true)

pub returns-then-v-p : goal.returns-then-v-p
returns-then-v-p c = sym (blank _ _ _ c.requires.0 c.if-i-eq0.false c.if-v-p.true)

pub returns : goal.returns
returns c = sym (digit _ _ _ c.requires.0 c.if-i-eq0.false c.if-v-p.false)
