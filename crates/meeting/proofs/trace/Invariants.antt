-- The invariant: the tables hold the walks from time t on, where they are in pair i. Assumes nothing.
use Prim.Native.Nat.{◌≤◌}
use mathlib.Core.Path.{◌≡◌}
use lib.ListN.{length}
use Rattle.lent.specs.Lent.{witness_tables}
use Rattle.queue.specs.Queue.{pair, depth}
use Rattle.meeting.specs.Trace.{Leads}
use Rattle.meeting.proofs.trace.Given as goal

abbrev pub invariant-loop-t : goal.invariant-loop-t
invariant-loop-t l =
    (l.i ≤ l.head) × (l.t ≤ l.d) × (depth (pair l.queue l.i) ≡ l.t) × (length l.word ≡ length l.initial.word) × (length l.one ≡ length l.initial.one) × (length l.other ≡ length l.initial.other)
    × Leads l.queue l.head l.d l.t l.i (witness_tables l.initial.word l.initial.one l.initial.other) (witness_tables l.word l.one l.other)
