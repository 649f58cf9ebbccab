-- The loop's invariant: what is left of the definition, from the place and the cells reached, is the whole of it. Assumes nothing.
use Prim.Native.Nat.{◌+◌, ◌-◌, ◌*◌, ◌≤◌}
use mathlib.Core.Path.{◌≡◌}
use lib.ListN.{length}
use Rattle.superseding.specs.Superseding.{superseding_in, with_superseding}
use Rattle.withdrawal_lines.specs.WithdrawalLines.{withdrawals_at}
use Rattle.withdrawal_lines.proofs.read_withdrawals.Given as goal

abbrev pub invariant-loop-least : goal.invariant-loop-least
invariant-loop-least l =
    (withdrawals_at l.s l.k l.line l.at l.least (superseding_in l.rows) (length l.s + 1 + l.first - l.line) ≡
    withdrawals_at l.s l.k l.first l.start 0 (superseding_in l.initial.rows) (length l.s + 1)) ×
    (l.rows ≡ with_superseding l.initial.rows (superseding_in l.rows)) × (length l.rows ≡ length l.initial.rows) ×
    (l.least ≤ 7) × (l.line ≤ l.first + l.least) × (l.line ≤ l.at + l.first) × (l.at ≤ l.start + 8 * l.least)

abbrev pub decreases-loop-least : goal.decreases-loop-least
decreases-loop-least l = length l.s + 1 + l.first - l.line
