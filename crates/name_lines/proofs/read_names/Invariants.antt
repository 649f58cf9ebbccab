-- The loop's invariant: what is left of the definition, from the place and the names reached, is the whole of it; the rows hold these names.
-- Assumes nothing.
use Prim.Native.Nat.{◌+◌, ◌*◌, ◌≤◌}
use mathlib.Core.Path.{◌≡◌}
use lib.ListN.{length}
use Rattle.name_lines.specs.NameStepLaws.{NamesSoFar}
use Rattle.name_lines.proofs.read_names.Given as goal

abbrev pub invariant-loop-l : goal.invariant-loop-l
invariant-loop-l l =
    (l.line ≡ 2 + l.l) × (l.at ≤ 12 + 30 * l.l) × (length l.rows ≡ length l.initial.rows) × NamesSoFar l.s l.k l.initial.rows l.rows l.line l.at l.l
