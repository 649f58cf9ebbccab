-- All definitions of this crate and of those below it that unfold, for laws that hold by computation.
use Rattle.frame.specs.Unfold.{frame_unfold}
use Rattle.format.specs.Unfold.{format_unfold}
use Rattle.name_lines.specs.NameLines

unfoldable pub name_lines_unfold : Unit {0}
unfolding frame_unfold format_unfold NameLines.name_line_at NameLines.names_at
name_lines_unfold = tt
