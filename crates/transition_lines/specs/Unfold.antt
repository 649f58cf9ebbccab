-- All definitions of this crate and of those below it that unfold, for laws that hold by computation.
use Rattle.frame.specs.Unfold.{frame_unfold}
use Rattle.format.specs.Unfold.{format_unfold}
use Rattle.transition_lines.specs.TransitionLines

unfoldable pub transition_lines_unfold : Unit {0}
unfolding frame_unfold format_unfold TransitionLines.transition_of TransitionLines.marked_one TransitionLines.line_from TransitionLines.transition_line_at TransitionLines.transitions_at
transition_lines_unfold = tt
