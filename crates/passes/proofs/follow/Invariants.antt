-- The loop's invariant: the number reached on the letters read, and the least colour of those entered. Assumes nothing.
use Prim.Native.Nat.{◌+◌, ◌<◌}
use mathlib.Core.Path.{◌≡◌}
use lib.ListN.{get_or}
use Rattle.passes.specs.TableRun.{reached, entered_in}
use Rattle.passes.specs.LeastLaws.{LeastSoFar}
use Rattle.passes.proofs.follow.Given as goal

abbrev pub invariant-loop-i : goal.invariant-loop-i
invariant-loop-i l =
    (l.at < l.count) × (l.at ≡ reached l.nexts l.start (λ j. get_or l.letters (l.from + j) 0) l.i)
    × LeastSoFar (entered_in l.tuples l.nexts l.start (λ j. get_or l.letters (l.from + j) 0)) l.i l.least
