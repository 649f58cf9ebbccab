-- Each cell passed fits; past the end of the table all cells are empty. Assumes nothing.
use Prim.Native.Nat.{ℕ, ◌<◌}
use Rattle.automaton.specs.Graph.{graph, CellFits}
use Rattle.automaton.proofs.cells_fit.Given as goal

abbrev pub invariant-loop-i : goal.invariant-loop-i
invariant-loop-i l = (j : ℕ) → j < l.i → CellFits (graph l.g l.table) j
