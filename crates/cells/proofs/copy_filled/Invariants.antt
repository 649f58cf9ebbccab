-- The cells passed are the list's, with fillers behind it: `Copying`. Assumes nothing.
use Rattle.cells.specs.CopyLaws.{Copying}
use Rattle.cells.proofs.copy_filled.Given as goal

abbrev pub invariant-loop-i : goal.invariant-loop-i
invariant-loop-i g l = Copying l.filler l.fn.table l.list l.table l.i

abbrev pub invariant-loop-i-2 : goal.invariant-loop-i-2
invariant-loop-i-2 g l = Copying l.filler l.fn.table l.list l.table l.i
