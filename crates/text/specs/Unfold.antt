-- All definitions of this crate and of those below it that unfold, for laws that hold by computation.
use Rattle.lists.specs.Unfold.{lists_unfold}
use Rattle.text.specs.Pieces
use Rattle.text.specs.Word

unfoldable pub text_unfold : Unit {0}
unfolding lists_unfold Pieces.pieces Word.starts_at
text_unfold = tt
