-- All definitions of this crate and of those below it that unfold, for laws that hold by computation.
use Rattle.tuple.specs.Unfold.{tuple_unfold}
use Rattle.lists.specs.Unfold.{lists_unfold}
use Rattle.numbering.specs.Explore
use Rattle.numbering.specs.Numbering

unfoldable pub numbering_unfold : Unit {0}
unfolding tuple_unfold lists_unfold Explore.same_tuple Explore.add_new Explore.step Explore.found Numbering.after_word
numbering_unfold = tt
