-- Before each turn: the sets closed up so far, and what is removed from the places left. Assumes nothing.
use Prim.Native.Nat.{◌+◌, ◌≤◌}
use Rattle.tuple.specs.SweepLaws.{Sweeping}
use Rattle.tuple.proofs.sweep.Given as goal

abbrev pub invariant-loop-i : goal.invariant-loop-i
invariant-loop-i l = (l.j ≤ l.i) × Sweeping l.n l.p (l.p + 1) l.initial.w l.w l.colour.0 l.out l.j l.i
