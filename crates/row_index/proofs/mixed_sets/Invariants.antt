-- What is left to mix in gives the whole. Assumes nothing.
use Prim.Native.Nat.{◌-◌, ◌<◌}
use mathlib.Core.Path.{◌≡◌}
use Rattle.tuple_record.specs.Record.{set_cells}
use Rattle.row_index.specs.Digest.{mix_from}
use Rattle.row_index.proofs.mixed_sets.Given as goal

abbrev pub invariant-loop-i : goal.invariant-loop-i
invariant-loop-i l = (l.h < 4294967296) × (mix_from l.row l.h l.i (set_cells - l.i) ≡ mix_from l.row 0 0 set_cells)
