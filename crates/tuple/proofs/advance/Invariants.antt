-- Each cell passed is a set, and replaced by its successors. Assumes nothing.
use Rattle.tuple.specs.AdvanceLaws.{Advancing}
use Rattle.tuple.proofs.advance.Given as goal

abbrev pub invariant-loop-i : goal.invariant-loop-i
invariant-loop-i l = Advancing l.table l.letter l.initial.w l.w l.i
