-- All definitions of this crate and of those below it that unfold, for laws that hold by computation.
use Rattle.lists.specs.Unfold.{lists_unfold}
use Rattle.superseding.specs.Superseding

unfoldable pub superseding_unfold : Unit {0}
unfolding lists_unfold Superseding.chain_end
superseding_unfold = tt
