-- `name_rows::put_composed` meets its contract. The loop's invariant: storing what the rest of the stretch composes to gives all of it stored.
-- Assumes nothing.
use Prim.Native.Nat.{◌+◌, ◌-◌, ◌≤◌}
use mathlib.Core.Path.{◌≡◌}
use lib.ListN.{length}
use lib.Seq.{sets}
use Rattle.text.specs.Bytes.{stretch}
use Rattle.names.specs.Name.{compose}
use Rattle.name_rows.proofs.put_composed.Given as goal

abbrev pub invariant-loop-i : goal.invariant-loop-i
invariant-loop-i l =
    (l.start ≤ l.i) × (l.i ≤ l.end) × (l.n + l.start ≤ l.i) × (length l.out ≡ length l.initial.out) ×
    (l.n + length (compose (stretch l.s l.i l.end)) ≡ length (compose (stretch l.s l.start l.end))) ×
    (sets l.out (l.at + l.n) (compose (stretch l.s l.i l.end)) ≡ sets l.initial.out l.at (compose (stretch l.s l.start l.end)))

abbrev pub decreases-loop-i : goal.decreases-loop-i
decreases-loop-i l = l.end - l.i
