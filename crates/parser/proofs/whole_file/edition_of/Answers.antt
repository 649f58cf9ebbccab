-- The word at the top decides. Assumes nothing.
use Rattle.std.proofs.Common.{sym, ◌∙◌}
use Rattle.parser.specs.Parse.{edition_of}
use Rattle.parser.proofs.whole_file.edition_of.Goals as goal

pub returns-then-starts_at : goal.returns-then-starts_at
unfolding edition_of
returns-then-starts_at c = simp (sym c.starts_at.ensures ∙ c.if-starts_at.true)

pub returns : goal.returns
unfolding edition_of
returns c = simp (sym c.starts_at.ensures ∙ c.if-starts_at.false)
