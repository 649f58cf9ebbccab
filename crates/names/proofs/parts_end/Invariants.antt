-- `names::parts_end` meets its contract. The loop's invariant: the parts from here on end where those from `start` on do. Assumes nothing.
use Prim.Native.Nat.{◌+◌, ◌-◌, ◌*◌, ◌≤◌}
use mathlib.Core.Path.{◌≡◌}
use Rattle.names.specs.Scan.{parts_end}
use Rattle.names.proofs.parts_end.Given as goal

abbrev pub invariant-loop-turn : goal.invariant-loop-turn
invariant-loop-turn l =
    (l.start ≤ l.at) × (l.at ≤ l.start + 3 * l.turn) × (parts_end l.s l.at (25 - l.turn) ≡ parts_end l.s l.start 25)
