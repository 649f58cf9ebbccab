-- `named_numbers::in_force` meets its contract. The loop's invariant: each cell passed is empty where its letter is withdrawn. Assumes nothing.
use Prim.Native.Nat.{ℕ, ◌<◌}
use Rattle.superseding.specs.Superseding.{superseding_in}
use Rattle.named_numbers.specs.InForce.{CellInForce}
use Rattle.named_numbers.proofs.in_force.Given as goal

abbrev pub invariant-loop-i : goal.invariant-loop-i
invariant-loop-i l = (j : ℕ) → j < l.i → CellInForce l.table (superseding_in l.rows) j
