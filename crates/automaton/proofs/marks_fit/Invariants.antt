-- Each cell passed fits; past the end of the marks all cells are empty. Assumes nothing.
use Prim.Native.Nat.{ℕ, ◌<◌}
use lib.ListN.{get_or}
use Rattle.automaton.specs.Automaton.{MarkFits}
use Rattle.automaton.proofs.marks_fit.Given as goal

abbrev pub invariant-loop-i : goal.invariant-loop-i
invariant-loop-i l = (j : ℕ) → j < l.i → MarkFits l.edition (get_or l.table j 0) (get_or l.marks j 0)
