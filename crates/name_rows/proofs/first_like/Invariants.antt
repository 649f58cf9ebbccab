-- The loop's invariant: no row passed is like row `count`. Assumes nothing.
use Prim.Native.Nat.{ℕ, ◌*◌, ◌<◌}
use mathlib.Core.Path.{◌≡◌}
use Rattle.name_rows.specs.Row.{name_row}
use Rattle.name_rows.proofs.first_like.Given as goal

abbrev pub invariant-loop-l : goal.invariant-loop-l
invariant-loop-l l = (i : ℕ) → i < l.l → name_row l.rows (24 * i) ≡ name_row l.rows (24 * l.count) → ⊥
