-- `sheet_sections::withdrawal_lines::withdrawals_length` meets its contract. The loop's invariant: what is counted and the lines that are left make all lines.
-- Assumes nothing.
use mathlib.Core.Path.{sym, ◌∙◌}
use native.Mathlib.Omega.{arith}
use native.Mathlib.Nat.{zero-add, sub-zero}
use Rattle.superseding.specs.Superseding.{superseding_in}
use Rattle.sheet_sections.specs.RowWithdrawalsLaws.{length-in-force, length-withdrawn, withdrawals-length-next, withdrawals-last}
use Rattle.sheet_sections.proofs.withdrawal_lines.withdrawals_length.Goals as goal
use Rattle.sheet_sections.proofs.withdrawal_lines.withdrawals_length.Goals.{then-superseding-ne0, else-superseding-ne0}

pub loop-l-init : goal.loop-l-init
loop-l-init c = (omega arith, zero-add _ ∙ rw sub-zero)

pub loop-l-preserved : goal.loop-l-preserved
loop-l-preserved c =
    let l = c.loop-l.l in
    let a = c.args in
    let cells = superseding_in a.rows.now in
    let cell = c.superseding.ensures.0 in
    let next = withdrawals-length-next cells a.k l (omega arith) in
    elim c.if-superseding-ne0.branch [
      | then-superseding-ne0 w ↦
          (let line = length-withdrawn cells l (λ e. w.if-superseding-ne0.true (cell ∙ e)) in (omega arith, omega arith))
      | else-superseding-ne0 w ↦
          (let none = length-in-force cells l (sym cell ∙ w.if-superseding-ne0.false) in (omega arith, omega arith))
    ]

pub returns : goal.returns
returns c =
    let a = c.args in
    let last = withdrawals-last (superseding_in a.rows.now) a.k c.loop-l.l (omega arith) in
    (omega arith, omega arith)
