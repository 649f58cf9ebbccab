-- By the mark. Assumes nothing.
use Rattle.tuple.specs.Parts.{out_of}
use Rattle.tuple.proofs.out_of.Goals as goal

pub returns-then-mark : goal.returns-then-mark
unfolding out_of
returns-then-mark c = simp c.if-mark.true c.union.ensures

pub returns-else-mark : goal.returns-else-mark
unfolding out_of
returns-else-mark c = simp c.if-mark.false
