-- All definitions of this crate that unfold, for laws that hold by computation.
use Rattle.lists.specs.Search

unfoldable pub lists_unfold : Unit {0}
unfolding Search.same Search.first_that Search.leading
lists_unfold = tt
