-- `sheet_lines::put_withdrawal` meets its contract: a withdrawal has two numbers. Assumes nothing.
use Rattle.format.specs.Format.{withdrawal_line}
use Rattle.sheet_lines.proofs.put_withdrawal.Goals as goal

pub returns : goal.returns
unfolding withdrawal_line
returns c = c.put_numbers.ensures
