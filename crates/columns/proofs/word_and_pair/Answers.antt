-- The word first, then what `pair_at` gives. Assumes nothing.
use mathlib.Core.Path.{sym, ◌∙◌}
use Rattle.columns.proofs.word_and_pair.Goals as goal

pub returns-then-starts_at : goal.returns-then-starts_at
returns-then-starts_at c = simp (sym c.starts_at.ensures ∙ c.if-starts_at.true, sym c.pair_at.ensures)

pub returns : goal.returns
returns c = simp (sym c.starts_at.ensures ∙ c.if-starts_at.false)
