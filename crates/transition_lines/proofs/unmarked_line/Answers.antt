-- Each answer is what the tests passed make of the definition. Assumes nothing.
use mathlib.Core.Path.{sym, ◌∙◌}
use Rattle.transition_lines.specs.TransitionLines.{line_from}
use Rattle.transition_lines.proofs.unmarked_line.Goals as goal

pub returns-in_err-letter : goal.returns-in_err-letter
unfolding line_from
returns-in_err-letter c = (c.from_residual.ensures ∙ simp (sym c.pair_at.ensures, c.in_err-letter.was), rw c.from_residual.ensures tt)

pub returns : goal.returns
unfolding line_from
returns c =
    (simp (sym c.pair_at.ensures, c.in_ok-letter.was, sym c.transition_of.ensures.0), c.transition_of.ensures.1)
