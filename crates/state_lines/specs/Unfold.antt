-- All definitions of this crate and of those below it that unfold, for laws that hold by computation.
use Rattle.frame.specs.Unfold.{frame_unfold}
use Rattle.format.specs.Unfold.{format_unfold}
use Rattle.state_lines.specs.StateLines

unfoldable pub state_lines_unfold : Unit {0}
unfolding frame_unfold format_unfold StateLines.state_line_at StateLines.states_at
state_lines_unfold = tt
