-- All definitions of this crate that unfold, for laws that hold by computation.
use Rattle.passes.specs.Letter
use Rattle.passes.specs.TableRun

unfoldable pub passes_unfold : Unit {0}
unfolding Letter.letter_at TableRun.reached
passes_unfold = tt
