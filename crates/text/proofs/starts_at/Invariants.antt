-- Whether the rest of the word stands at the place reached is the answer. Assumes nothing.
use Prim.Native.Nat.{◌+◌}
use mathlib.Core.Path.{◌≡◌}
use lib.ListN.{drop}
use Rattle.text.specs.Word.{starts_at}
use Rattle.text.proofs.starts_at.Given as goal

abbrev pub invariant-loop-i : goal.invariant-loop-i
invariant-loop-i l = starts_at l.s (l.at + l.i) (drop l.i l.word) ≡ starts_at l.s l.at l.word
