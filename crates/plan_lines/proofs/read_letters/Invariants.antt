-- The loop's invariant: what is left to read after the letters in the buffer is left of the whole, and only row k is written. Assumes nothing.
use Prim.Native.Nat.{◌+◌, ◌≤◌}
use mathlib.Core.Path.{◌≡◌}
use lib.ListN.{length, drop}
use Rattle.plan_lines.specs.StepLaws.{SoFar}
use Rattle.name_rows.specs.Rows.{OnlyRow}
use Rattle.plan_lines.proofs.read_letters.Given as goal

abbrev pub invariant-loop-i : goal.invariant-loop-i
invariant-loop-i l =
    (l.line ≡ 2 + l.i) × (l.at ≤ 12288) × (length l.rows ≡ length l.initial.rows) × (length l.letters ≡ length l.initial.letters) × (drop l.i l.letters ≡ drop l.i l.initial.letters)
    × SoFar l.p l.initial.rows l.k l.count l.rows l.letters l.line l.at l.i × OnlyRow l.k l.initial.rows l.rows
