-- The line's first number, and behind it each edition has its form. Assumes nothing.
use mathlib.Core.Path.{◌≡◌, sym, ◌∙◌}
use Rattle.transition_lines.specs.TransitionLines.{line_from, transition_line_at}
use Rattle.transition_lines.proofs.transition_line.Goals as goal
use Rattle.transition_lines.proofs.transition_line.Goals.{In_ok-from}

-- what is left of the definition behind the line's first number
behind : (c : In_ok-from) →
    let a = c.args in
    transition_line_at a.edition a.s.now a.at a.n a.k a.least ≡
    line_from a.edition a.s.now a.at a.n a.k a.least c.in_ok-from.from
unfolding transition_line_at
behind c = simp (sym c.number_at.ensures, c.in_ok-from.was)

pub returns-in_err-from : goal.returns-in_err-from
unfolding transition_line_at
returns-in_err-from c = (c.from_residual.ensures ∙ simp (sym c.number_at.ensures, c.in_err-from.was), rw c.from_residual.ensures tt)

pub returns-in-StateBased : goal.returns-in-StateBased
returns-in-StateBased c =
    (sym (behind (goal.at.returns-in-StateBased c).In_ok-from ∙ rw c.in-StateBased.is (sym c.unmarked_line.ensures.0)), c.unmarked_line.ensures.1)

pub returns-in-TransitionBased : goal.returns-in-TransitionBased
returns-in-TransitionBased c =
    (sym (behind (goal.at.returns-in-TransitionBased c).In_ok-from ∙ rw c.in-TransitionBased.is (sym c.marked_line.ensures.0)), c.marked_line.ensures.1)
