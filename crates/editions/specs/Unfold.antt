-- All definitions of this crate and of those below it that unfold, for laws that hold by computation.
use Rattle.format.specs.Unfold.{format_unfold}
use Rattle.editions.specs.Rewritten

unfoldable pub editions_unfold : Unit {0}
unfolding format_unfold Rewritten.rewritten Rewritten.rewritten_file
editions_unfold = tt
