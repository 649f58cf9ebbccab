-- All definitions of this crate and of those below it that unfold, for laws that hold by computation.
use Rattle.colour.specs.Unfold.{colour_unfold}
use Rattle.automaton.specs.Unfold.{automaton_unfold}
use Rattle.tuple.specs.Parts
use Rattle.tuple.specs.Row
use Rattle.tuple.specs.Step

unfoldable pub tuple_unfold : Unit {0}
unfolding colour_unfold automaton_unfold Parts.out_of Row.row Row.tuple_of Step.places Step.union_all Step.is_marked Step.removed Step.turns Step.pass
    Step.least Step.colour_of Step.unless_empty Step.closed Step.close_up Step.first Step.next Step.run
tuple_unfold = tt
