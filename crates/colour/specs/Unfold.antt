-- All definitions of this crate and of those below it that unfold, for laws that hold by computation.
use Rattle.sets.specs.Unfold.{sets_unfold}
use Rattle.colour.specs.Colour

unfoldable pub colour_unfold : Unit {0}
unfolding sets_unfold Colour.changed Colour.colour_at Colour.dead_or
colour_unfold = tt
