-- Storing the last k places from here on gives the whole column stored. Assumes nothing.
use Prim.Native.Nat.{◌+◌, ◌-◌, ◌^◌}
use mathlib.Core.Path.{◌≡◌}
use lib.Seq.{sets}
use Rattle.columns.specs.Column.{column}
use Rattle.columns.proofs.put_column.Given as goal

abbrev pub invariant-loop-k : goal.invariant-loop-k
invariant-loop-k l =
    (l.p ≡ 10 ^ l.k) × (sets l.out (l.at + l.w - l.k) (column l.k l.v) ≡ sets l.initial.out l.at (column l.w l.v))
