-- All definitions of this crate and of those below it that unfold, for laws that hold by computation.
use Rattle.sets.specs.Unfold.{sets_unfold}
use Rattle.automaton.specs.Successors

unfoldable pub automaton_unfold : Unit {0}
unfolding sets_unfold Successors.given Successors.successors_below Successors.successors_of
automaton_unfold = tt
