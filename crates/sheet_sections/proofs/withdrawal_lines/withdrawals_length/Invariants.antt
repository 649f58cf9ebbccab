-- `sheet_sections::withdrawal_lines::withdrawals_length` meets its contract. The loop's invariant: what is counted and the lines that are left make all lines.
-- Assumes nothing.
use Prim.Native.Nat.{◌+◌, ◌-◌, ◌*◌, ◌≤◌}
use mathlib.Core.Path.{◌≡◌}
use lib.ListN.{length}
use Rattle.superseding.specs.Superseding.{superseding_in}
use Rattle.format.specs.Format.{withdrawal_lines}
use Rattle.sheet_sections.specs.RowWithdrawals.{withdrawals_of}
use Rattle.sheet_sections.proofs.withdrawal_lines.withdrawals_length.Given as goal

abbrev pub invariant-loop-l : goal.invariant-loop-l
invariant-loop-l l =
    (l.count ≤ 8 * l.l)
    × (l.count + length (withdrawal_lines (withdrawals_of (superseding_in l.rows) l.l (l.k - l.l))) ≡ length (withdrawal_lines (withdrawals_of (superseding_in l.rows) 0 l.k)))
