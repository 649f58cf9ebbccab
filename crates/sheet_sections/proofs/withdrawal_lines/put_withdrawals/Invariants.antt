-- `sheet_sections::withdrawal_lines::put_withdrawals` meets its contract: what is left to write gives the whole. Assumes nothing.
use Rattle.text.specs.PiecesLaws.{Putting}
use Rattle.superseding.specs.Superseding.{superseding_in}
use Rattle.sheet_sections.specs.RowWithdrawals.{withdrawal_text}
use Rattle.sheet_sections.proofs.withdrawal_lines.put_withdrawals.Given as goal

abbrev pub invariant-loop-l : goal.invariant-loop-l
invariant-loop-l l = Putting (withdrawal_text (superseding_in l.rows)) l.initial.out l.start l.k l.out l.at l.l
