-- From the last place on: the cells passed have the members of the places behind them. Assumes nothing.
use mathlib.Core.Path.{◌≡◌}
use lib.Seq.{slice}
use Rattle.tuple.specs.Step.{union_all}
use Rattle.tuple.specs.UnionLaws.{UnionsFrom}
use Rattle.tuple.proofs.unions.Given as goal

abbrev pub invariant-loop-i : goal.invariant-loop-i
invariant-loop-i l = (l.all ≡ union_all (slice l.i l.count l.w)) × UnionsFrom l.i l.count l.w l.later
