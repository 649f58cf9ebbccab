-- All definitions of this crate and of those below it that unfold, for laws that hold by computation.
use Rattle.columns.specs.Unfold.{columns_unfold}
use Rattle.frame.specs.Phase

unfoldable pub frame_unfold : Unit {0}
unfolding columns_unfold Phase.end_at
frame_unfold = tt
