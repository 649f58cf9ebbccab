-- All definitions of this crate that unfold, for laws that hold by computation.
use Rattle.sets.specs.Sets

unfoldable pub sets_unfold : Unit {0}
unfolding Sets.bit Sets.set_of Sets.union_of Sets.inter_of Sets.minus_of Sets.is_within
sets_unfold = tt
