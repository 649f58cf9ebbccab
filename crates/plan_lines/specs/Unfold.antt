-- All definitions of this crate and of those below it that unfold, for laws that hold by computation.
use Rattle.frame.specs.Unfold.{frame_unfold}
use Rattle.format.specs.Unfold.{format_unfold}
use Rattle.plan_lines.specs.PlanLines
use Rattle.plan_lines.specs.LetterLines

unfoldable pub plan_lines_unfold : Unit {0}
unfolding frame_unfold format_unfold PlanLines.plan_lines LetterLines.letter_line_at LetterLines.letters_at
plan_lines_unfold = tt
