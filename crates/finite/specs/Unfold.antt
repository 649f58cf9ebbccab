-- All definitions of this crate that unfold, for laws that hold by computation.
use Rattle.finite.specs.Least

unfoldable pub finite_unfold : Unit {0}
unfolding Least.lowest
finite_unfold = tt
