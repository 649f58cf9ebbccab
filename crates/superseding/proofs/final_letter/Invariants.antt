-- The loop's invariant: the chain of the letter reached ends where the whole chain does. Assumes nothing.
use Prim.Native.Nat.{◌-◌, ◌<◌}
use mathlib.Core.Path.{◌≡◌}
use lib.ListN.{get_or}
use Rattle.superseding.specs.Superseding.{superseding_in, final_letter}
use Rattle.superseding.proofs.final_letter.Given as goal

abbrev pub invariant-loop-last : goal.invariant-loop-last
invariant-loop-last l =
    (l.last < 8) × (l.by ≡ get_or (superseding_in l.rows) l.last 0) × (final_letter (superseding_in l.rows) l.last ≡ final_letter (superseding_in l.rows) l.l)

abbrev pub decreases-loop-last : goal.decreases-loop-last
decreases-loop-last l = 8 - l.last
