-- All definitions of this crate and of those below it that unfold, for laws that hold by computation.
use Rattle.name_lines.specs.Unfold.{name_lines_unfold}
use Rattle.withdrawal_lines.specs.Unfold.{withdrawal_lines_unfold}
use Rattle.state_lines.specs.Unfold.{state_lines_unfold}
use Rattle.transition_lines.specs.Unfold.{transition_lines_unfold}
use Rattle.parser.specs.Parse

unfoldable pub parser_unfold : Unit {0}
unfolding name_lines_unfold withdrawal_lines_unfold state_lines_unfold transition_lines_unfold Parse.edition_of Parse.head_of Parse.parse
parser_unfold = tt
